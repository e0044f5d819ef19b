use Rattle.client_laws.proofs.Publishing.{announce_ok}
use Rattle.client_laws.proofs.laws.announce.Goals as goal

pub returns : goal.returns
returns c = λ seats conn publication history request given reply act can legal fresh place asks. announce_ok seats conn publication can history legal.0 request given reply act legal.1 fresh place asks
