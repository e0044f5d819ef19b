use Rattle.ring_steps.proofs.Loads.{attach_keeps, detach_keeps, first_load_keeps, second_load_keeps}
use Rattle.ring_steps.proofs.laws.loads_keep_the_invariant.Goals as goal

pub returns-clause-attach : goal.returns-clause-attach
returns-clause-attach c = λ s i x back is. attach_keeps s i x back is.sound is.there is.within

pub returns-clause-detach : goal.returns-clause-detach
returns-clause-detach c = λ s i x is. detach_keeps s i x is.sound is.there is.within

pub returns-clause-first : goal.returns-clause-first
returns-clause-first c = λ s i x is. first_load_keeps s i x is.sound is.there is.within

pub returns-clause-second : goal.returns-clause-second
returns-clause-second c = λ s i x is. second_load_keeps s i x is.sound is.there is.within
