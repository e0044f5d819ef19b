use Rattle.ring_steps.proofs.Pinning.{pin_keeps}
use Rattle.ring_steps.proofs.laws.pin_keeps_the_invariant.Goals as goal

pub returns : goal.returns
returns c = λ s i x is. pin_keeps s i x is.sound is.there is.within
