-- What a pass counts, and why it stops.
use Rattle.std.specs.Prelude.{ℕ, ◌+◌}
use Rattle.rtsp_message.specs.declared.intake.Next.{Next}
use Rattle.rtsp_message.specs.declared.intake.Next.TheVariants as next
use Rattle.publisher.specs.declared.report.InReport.{InReport}
use Rattle.publisher.specs.declared.report.InStop.TheVariants as in_stop
use Rattle.player.specs.declared.report.OutReport.{OutReport}
use Rattle.player.specs.declared.report.OutStop.{OutStop}
use Rattle.player.specs.declared.report.OutStop.TheVariants as out_stop
use Rattle.relay_pass.specs.declared.report.FrameCounts.{FrameCounts}
use Rattle.relay_pass.specs.declared.report.TakeCounts.{TakeCounts}
use Rattle.relay_pass.specs.declared.report.StreamEnd.{StreamEnd}
use Rattle.relay_pass.specs.declared.report.StreamEnd.TheVariants as stream
use Rattle.relay_pass.specs.declared.report.PassStop.{PassStop}
use Rattle.relay_pass.specs.declared.report.PassStop.TheVariants as stop

-- the counts of frames as those of a publisher's report; its reason to stop isn't used
abbrev pub counts_of : FrameCounts → InReport
counts_of c = record {
  published = c.published;
  pinned = c.pinned;
  oversize = c.oversize;
  worn = c.worn;
  unkept = c.unkept;
  bad_rtp = c.bad_rtp;
  strangers = c.strangers;
  stop = in_stop.End;
}

-- how many packets are counted as sent, skipped or lost
abbrev pub counted_takes : TakeCounts → ℕ
counted_takes t = t.sent + t.skipped + t.lost

-- the counts with those of some more takes added
abbrev pub with_report : TakeCounts → OutReport → TakeCounts
with_report t out = record { sent = t.sent + out.sent; skipped = t.skipped + out.skipped; lost = t.lost + out.lost; cut = out.cut }

-- the answer of an intake by which a stream ended so
abbrev pub answer_of : StreamEnd → Next
answer_of stream.End = next.End
answer_of (stream.Fault fault) = next.Fault fault
answer_of stream.ReadFailed = next.ReadFailed
answer_of stream.OutOfMemory = next.OutOfMemory

-- why a pass has stopped whose stream ended so, and whose last takes stopped so
abbrev pub stop_of : StreamEnd → OutStop → PassStop
stop_of end out_stop.WriteFailed = stop.WriteFailed
stop_of end out_stop.Done = stop.Stream end
stop_of end out_stop.Empty = stop.Stream end
stop_of end out_stop.Ended = stop.Stream end
