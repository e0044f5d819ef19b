use Rattle.relay_talk.proofs.Stretches.{unrecorded_dropped}
use Rattle.relay_talk.proofs.laws.unrecorded_frames_are_dropped.Goals as goal

pub returns : goal.returns
returns c = unrecorded_dropped
