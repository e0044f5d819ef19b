use Rattle.ring_steps.proofs.Opening.{empty_keeps, new_keeps}
use Rattle.ring_steps.proofs.laws.empty_ring_is_sound.Goals as goal

pub returns-clause-zeroed : goal.returns-clause-zeroed
returns-clause-zeroed c = empty_keeps

pub returns-clause-any : goal.returns-clause-any
returns-clause-any c = new_keeps
