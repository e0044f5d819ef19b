use Rattle.std.proofs.Common.{◌≡◌, ◌+◌}
use Rattle.std.specs.Prelude.{replicate}
use Rattle.ring_steps.specs.Ring.{fresh_slot, new_seat}
use Rattle.ring_steps.proofs.ring.Ring.empty.Given as goal

abbrev pub invariant-loop : goal.invariant-loop
invariant-loop l = l.slots.items ≡ replicate l.counter fresh_slot

abbrev pub invariant-loop-2 : goal.invariant-loop-2
invariant-loop-2 l = (l.slots.items ≡ replicate (l.keep + 1) fresh_slot) × (l.views.items ≡ replicate l.counter new_seat)
