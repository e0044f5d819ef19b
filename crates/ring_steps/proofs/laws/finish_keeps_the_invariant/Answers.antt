use Rattle.ring_steps.proofs.Writing.{finish_keeps}
use Rattle.ring_steps.proofs.laws.finish_keeps_the_invariant.Goals as goal

pub returns : goal.returns
returns c = λ s is whole. finish_keeps s is.sound is.within whole
