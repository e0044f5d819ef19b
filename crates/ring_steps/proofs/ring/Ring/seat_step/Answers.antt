use Rattle.ring_steps.proofs.Keeping.{kept_either, seat_step_keeps}
use Rattle.ring_steps.proofs.ring.Ring.seat_step.Goals as goal

pub returns-clause-invariant : goal.returns-clause-invariant
returns-clause-invariant c =
    kept_either _ _ _ _ c.requires.invariant (λ t step. seat_step_keeps _ _ _ _ step c.requires.invariant) c.seat_goes_on.ensures.step c.seat_goes_on.ensures.err
