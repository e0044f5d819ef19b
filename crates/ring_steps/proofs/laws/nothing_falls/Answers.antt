use Rattle.ring_steps.proofs.Stepping.{ring_step_grows}
use Rattle.ring_steps.proofs.laws.nothing_falls.Goals as goal

pub returns : goal.returns
returns c = λ s by o is. ring_step_grows s by o is.step is.sound
