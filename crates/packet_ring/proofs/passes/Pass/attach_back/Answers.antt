use Rattle.std.proofs.Common.{ℕ, ◌-◌, ◌/◌, ap, refl, subst}
use base.Growing.{prefix_refl}
use Rattle.ring_steps.specs.declared.views.SeatPhase.TheVariants as seating
use Rattle.ring_steps.specs.declared.words.Head.{Head}
use Rattle.packet_ring.specs.Rule.{View}
use Rattle.packet_ring.specs.Steps.{ends_at, seat_of}
use Rattle.packet_ring.specs.Calls.{SeesOn}
use Rattle.packet_ring.specs.Views.{Passing, seen_by}
use Rattle.packet_ring.proofs.Looks.{looks, marks}
use Rattle.packet_ring.proofs.Seeing.{finds_log, sees}
use Rattle.packet_ring.proofs.passes.Pass.attach_back.Goals as goal

pub returns-clause-sees : goal.returns-clause-sees
returns-clause-sees c = let old = c.self.inside.token in let new = c.attach-head.new.token in let load = c.attach-head.ensures.step in let z = c.deref-block.result.now.shared.id in let found : ℕ = c.attach-head.result in let x = seat_of old.me.view in
    subst (λ (p : Passing). SeesOn p.seen p.closed (seen_by new (found / 2)) (ends_at new.me.seen (found / 2))) c.self.view_is
    (sees old.id old new seating.Out c.self.inside.known (found / 2) load.head (record { same = refl; seat = c.self.invariant.seat; free = c.self.invariant.free; has = c.self.invariant.has; short = c.self.invariant.short })
    (looks (z.units - 2) x old.me found new.me _ load new.me (prefix_refl new.me.seen)))

pub returns-clause-found : goal.returns-clause-found
returns-clause-found c = let old = c.self.inside.token in let new = c.attach-head.new.token in let load = c.attach-head.ensures.step in let z = c.deref-block.result.now.shared.id in let found : ℕ = c.attach-head.result in let x = seat_of old.me.view in
    finds_log old.me new (found / 2) load.head (looks (z.units - 2) x old.me found new.me _ load new.me (prefix_refl new.me.seen)) (ap (λ (w : View). let h : Head = record { length = (seat_of w).seen; closed = (seat_of w).saw_closed } in h) load.view) (marks (z.units - 2) x old.me found new.me _ load)
