use Rattle.transport_header.proofs.OneChoice.{one_choice}
use Rattle.transport_header.proofs.laws.choice.Goals as goal

pub returns : goal.returns
returns c = one_choice
