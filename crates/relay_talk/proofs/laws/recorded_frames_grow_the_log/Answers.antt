use Rattle.relay_talk.proofs.Stretches.{grows_by_frames}
use Rattle.relay_talk.proofs.laws.recorded_frames_grow_the_log.Goals as goal

pub returns : goal.returns
returns c = grows_by_frames
