use Rattle.ring_steps.proofs.Pinning.{unpin_keeps, unpin_failed_keeps}
use Rattle.ring_steps.proofs.laws.unpin_keeps_the_invariant.Goals as goal

pub returns-clause-held : goal.returns-clause-held
returns-clause-held c = λ s i x is. unpin_keeps s i x is.sound is.there is.within

pub returns-clause-failed : goal.returns-clause-failed
returns-clause-failed c = λ s i x is. unpin_failed_keeps s i x is.sound is.there is.within
