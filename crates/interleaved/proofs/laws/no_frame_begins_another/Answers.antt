use Rattle.interleaved.proofs.Frames.{no_frame_begins_another}
use Rattle.interleaved.proofs.laws.no_frame_begins_another.Goals as goal

pub returns : goal.returns
returns c = no_frame_begins_another
