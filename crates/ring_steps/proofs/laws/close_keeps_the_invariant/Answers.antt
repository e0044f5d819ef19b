use Rattle.ring_steps.proofs.Writing.{close_keeps}
use Rattle.ring_steps.proofs.laws.close_keeps_the_invariant.Goals as goal

pub returns : goal.returns
returns c = λ s is. close_keeps s is.sound is.within
