use Rattle.source_sdp.proofs.Bounds.{bounded}
use Rattle.source_sdp.proofs.laws.memory.Goals as goal

pub returns : goal.returns
returns c = bounded
