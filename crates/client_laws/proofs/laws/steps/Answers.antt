use Rattle.client_laws.proofs.Publishing.{leads}
use Rattle.client_laws.proofs.laws.steps.Goals as goal

pub returns : goal.returns
returns c = λ seats conn publication history request given reply act from to can legal was moves. (leads seats conn publication can history legal.0 request given reply act legal.1 from to was moves).next
