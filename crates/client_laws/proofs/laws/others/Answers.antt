use Rattle.client_laws.proofs.Keeping.{others_spare, stays}
use Rattle.client_laws.proofs.laws.others.Goals as goal

pub returns : goal.returns
returns c = λ seats conn publication history entry stage other was. stays seats conn publication history entry (others_spare conn entry other) stage was
