-- How a player's frames ended, as its connection tells of it.
use Rattle.std.specs.Prelude.{Option, None, Some}
use Rattle.relay_accounts.specs.declared.ending.FrameEnd.{FrameEnd}
use Rattle.relay_accounts.specs.declared.ending.FrameEnd.TheVariants as end
use Rattle.waking.specs.declared.ending.Ending.{Ending}
use Rattle.waking.specs.declared.ending.Ending.TheVariants.{WithMount, Closing, Failed}
use Rattle.waking.specs.declared.ending.Failure.TheVariants.{NoTap, OutOfMemory, WriteFailed}

-- frames that hadn't ended, or whose tap was gone, were stopped
abbrev pub frame_end_of : Option Ending → FrameEnd
frame_end_of None = end.Stopped
frame_end_of (Some WithMount) = end.Ended
frame_end_of (Some (Closing moment)) = end.Ended
frame_end_of (Some (Failed NoTap)) = end.Stopped
frame_end_of (Some (Failed OutOfMemory)) = end.OutOfMemory
frame_end_of (Some (Failed WriteFailed)) = end.WriteFailed
