use Rattle.outgoing.proofs.Running.{frames_are, stream_is}
use Rattle.outgoing.proofs.laws.runs.Goals as goal

pub returns-clause-stream : goal.returns-clause-stream
returns-clause-stream c = stream_is

pub returns-clause-frames : goal.returns-clause-frames
returns-clause-frames c = frames_are
