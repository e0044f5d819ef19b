use Rattle.client_laws.proofs.Publishing.{record_ok}
use Rattle.client_laws.proofs.laws.recording.Goals as goal

pub returns : goal.returns
returns c = λ seats conn publication history request given reply act told can legal was asks. record_ok seats conn publication can history legal.0 request given reply act legal.1 told was asks
