use Rattle.std.proofs.Common.{◌≡◌, ◌+◌, replicate, ◌-◌}
use Rattle.packet_ring.specs.Rule.{seat_views}
use Rattle.packet_ring.specs.Views.{new_pass}
use Rattle.packet_ring.proofs.opening.passes.Given as goal

abbrev pub invariant-loop : goal.invariant-loop
invariant-loop l =
    (l.rest.id ≡ l.ring.value.shared.id) × (l.rest.next ≡ l.counter + 1) × (l.rest.views ≡ seat_views (l.seats - l.counter))
    × (l.passes.items ≡ replicate l.counter (new_pass l.ring.value.shared.id)) × (l.ring.value ≡ l.fn.ring.value) × (l.seats ≡ l.fn.seats)
