use Rattle.session_state.specs.declared.session.State.TheVariants as states
use Rattle.std.proofs.Common.{refl}
use Rattle.client_laws.proofs.Publishing.{teardown_ok}
use Rattle.client_laws.proofs.laws.tear_down.Goals as goal

pub returns : goal.returns
returns c = record {
  recording = λ seats conn publication history request given reply act told can legal was asks. teardown_ok seats conn publication can history legal.0 request given reply act legal.1 told states.Recording refl was asks;
  ready = λ seats conn publication history request given reply act told can legal was asks. teardown_ok seats conn publication can history legal.0 request given reply act legal.1 told states.Ready refl was asks;
}
