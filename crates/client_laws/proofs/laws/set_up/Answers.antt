use Rattle.client_laws.proofs.Publishing.{first_setup_ok, next_setup_ok}
use Rattle.client_laws.proofs.laws.set_up.Goals as goal

pub returns : goal.returns
returns c = record {
  first = λ seats conn publication history request given reply act track can legal was there left asks. first_setup_ok seats conn publication can history legal.0 request given reply act legal.1 track was there left asks;
  next = λ seats conn publication history request given reply act track told can legal was there asks. next_setup_ok seats conn publication can history legal.0 request given reply act legal.1 track told was there asks;
}
