use Rattle.ring_steps.proofs.Stepping.{ring_step_keeps}
use Rattle.ring_steps.proofs.laws.steps_keep_the_invariant.Goals as goal

pub returns : goal.returns
returns c = λ s by o is. ring_step_keeps s by o is.step is.sound
