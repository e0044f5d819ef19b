-- How a connection ends.
use Rattle.std.specs.Prelude.{Bool, true, false, Option, Some}
use Rattle.rtsp_message.specs.declared.fault.Fault.{Fault}
use Rattle.rtsp_message.specs.declared.fault.Fault.TheVariants as faults
use Rattle.rtsp_message.specs.declared.status.Status.{Status}
use Rattle.rtsp_message.specs.declared.status.Status.TheVariants as statuses
use Rattle.relay_accounts.specs.declared.ending.ConnectionEnd.{ConnectionEnd}
use Rattle.relay_accounts.specs.declared.ending.ConnectionEnd.TheVariants as ends
use Rattle.relay_accounts.specs.declared.ending.FrameEnd.{FrameEnd}
use Rattle.relay_accounts.specs.declared.ending.WireFailure.{WireFailure}
use Rattle.relay_accounts.specs.declared.ending.WireFailure.TheVariants as failures
use Rattle.relay_accounts.specs.declared.ending.FrameEnd.TheVariants as frames

-- What is reported if the reader met nothing that comes first: that the frames were out of memory; then, if the peer was sent
-- the end of its stream, that all is well; then a failed write of the frames; else the reader's own end.
abbrev pub told_end : ConnectionEnd → FrameEnd → (is_over : Bool) → ConnectionEnd
told_end read frames.OutOfMemory is_over = ends.OutOfMemory
told_end read sent true = ends.Done
told_end read frames.WriteFailed false = ends.WriteFailed
told_end read sent false = read

-- How a connection ended. A fault of its stream, that it was out of memory or had no thread, and that it was disconnected for
-- its silence, by the system or for a missing header of a proxy, is reported whatever became of its frames.
abbrev pub end_of : ConnectionEnd → FrameEnd → (is_over : Bool) → ConnectionEnd
end_of (ends.StreamFault fault) sent is_over = ends.StreamFault fault
end_of ends.OutOfMemory sent is_over = ends.OutOfMemory
end_of ends.NoThread sent is_over = ends.NoThread
end_of ends.Expired sent is_over = ends.Expired
end_of ends.Idle sent is_over = ends.Idle
end_of ends.Reset sent is_over = ends.Reset
end_of ends.NoAcknowledgement sent is_over = ends.NoAcknowledgement
end_of ends.Silent sent is_over = ends.Silent
end_of ends.NotSetUp sent is_over = ends.NotSetUp
end_of (ends.NoHeader end) sent is_over = ends.NoHeader end
end_of read sent is_over = told_end read sent is_over

-- How a connection ended that the system has ended, if it has. After a reset no read and no write failed otherwise. If nothing
-- was acknowledged, that is reported even of a connection that was about to end by itself.
abbrev pub end_by : ConnectionEnd → Option WireFailure → ConnectionEnd
end_by ends.ReadFailed (Some failures.Reset) = ends.Reset
end_by ends.WriteFailed (Some failures.Reset) = ends.Reset
end_by ends.Done (Some failures.NoAcknowledgement) = ends.NoAcknowledgement
end_by ends.ReadFailed (Some failures.NoAcknowledgement) = ends.NoAcknowledgement
end_by ends.WriteFailed (Some failures.NoAcknowledgement) = ends.NoAcknowledgement
end_by end failure = end

-- the status of the fixed text after a fault (RFC 2326, 7.1.1): a head or a body that is too long, else a bad request
abbrev pub status_of : Fault → Status
status_of faults.HeadTooLong = statuses.RequestEntityTooLarge
status_of faults.BodyTooLong = statuses.RequestEntityTooLarge
status_of faults.BadLine = statuses.BadRequest
status_of faults.BadHeader = statuses.BadRequest
status_of faults.BadLength = statuses.BadRequest
