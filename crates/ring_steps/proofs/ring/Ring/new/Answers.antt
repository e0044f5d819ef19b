use Rattle.ring_steps.proofs.Opening.{empty_keeps, ok_then}
use Rattle.ring_steps.proofs.ring.Ring.new.Goals as goal

pub returns-clause-invariant : goal.returns-clause-invariant
returns-clause-invariant c = ok_then c.empty.result _ _ c.empty.ensures (λ ring is. rw is (empty_keeps c.args.keep c.args.seats c.requires.low))
