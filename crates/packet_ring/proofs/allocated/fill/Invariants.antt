use Rattle.std.proofs.Common.{◌≡◌, ◌-◌, ◌≤◌, ◌++◌, replicate, Some, None}
use Rattle.packet_ring.proofs.allocated.fill.Given as goal

abbrev pub invariant-loop-i : goal.invariant-loop-i
invariant-loop-i l = (l.i ≤ l.words) × (l.places.at ≡ l.fn.places.at) × (l.places.slots ≡ replicate l.i (Some 0) ++ replicate (l.all - l.i) None)

abbrev pub decreases-loop-i : goal.decreases-loop-i
decreases-loop-i l = l.words - l.i
