use Rattle.ring_steps.proofs.Begins.{begin_keeps}
use Rattle.ring_steps.proofs.laws.begin_keeps_the_invariant.Goals as goal

pub returns : goal.returns
returns c = λ s p is unclosed. begin_keeps s p is.sound is.within unclosed
