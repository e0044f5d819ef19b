use Rattle.ring_steps.proofs.Seeing.{ring_step_sees}
use Rattle.ring_steps.proofs.laws.seen_only_grows.Goals as goal

pub returns : goal.returns
returns c = λ s by o is. ring_step_sees s by o is.step is.sound
