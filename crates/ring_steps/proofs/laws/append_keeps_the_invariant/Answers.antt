use Rattle.ring_steps.proofs.Writing.{append_keeps}
use Rattle.ring_steps.proofs.laws.append_keeps_the_invariant.Goals as goal

pub returns : goal.returns
returns c = λ s is. append_keeps s is.sound is.within
