use Rattle.outgoing.proofs.Running.{all_is_read}
use Rattle.outgoing.proofs.laws.readers.Goals as goal

pub returns : goal.returns
returns c = all_is_read
