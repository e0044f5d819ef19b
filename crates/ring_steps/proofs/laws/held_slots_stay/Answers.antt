use Rattle.ring_steps.proofs.Seeing.{ring_step_holds}
use Rattle.ring_steps.proofs.laws.held_slots_stay.Goals as goal

pub returns : goal.returns
returns c = λ s by o is. ring_step_holds s by o is.step is.sound
