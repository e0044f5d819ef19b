use Rattle.std.proofs.Common.{◌≡◌, ◌<◌, Some, false, not, sym, subst, arith, slice_get, vec_capacity}
use Rattle.std.specs.List.{count_by}
use Rattle.std.proofs.lemmas.Option.{slice_get_within}
use Rattle.mounts.proofs.FreeSeats.{last_is_free, popped, taken}
use Rattle.mounts.proofs.seats.Seats.take.Goals as goal

pub unwrap-last-requires : goal.unwrap-last-requires
unwrap-last-requires c =
    let all = c.self.invariant.all in
    let some : 0 < count_by not c.self.inside.out.items = subst (λ out. 0 < count_by not out) (sym c.self.view_is) c.requires in
    c.pop.ensures.variant.1 (omega (arith, all, some))

pub index_mut-requires : goal.index_mut-requires
index_mut-requires c =
    let free = popped c.self.inside.out.items c.self.inside.free.items c.pop.new.self.items (vec_capacity c.self.inside.free) c.pop.result c.unwrap-last.result c.from-seat.result
    c.self.invariant c.pop.ensures.items c.unwrap-last.ensures c.from-seat.ensures in
    let within = slice_get_within c.self.inside.out.items c.from-seat.result false
    (last_is_free c.self.inside.out.items c.pop.new.self.items c.from-seat.result (vec_capacity c.self.inside.free) free) in
    omega (arith, within)

pub invariant_of-self : goal.invariant_of-self
invariant_of-self c =
    let free = popped c.self.inside.out.items c.self.inside.free.items c.pop.new.self.items (vec_capacity c.self.inside.free) c.pop.result c.unwrap-last.result c.from-seat.result
    c.self.invariant c.pop.ensures.items c.unwrap-last.ensures c.from-seat.ensures in
    rw c.pop.ensures.capacity (taken c.self.inside.out.items c.pop.new.self.items c.from-seat.result (vec_capacity c.self.inside.free) free)

pub returns-clause-free : goal.returns-clause-free
returns-clause-free c =
    let free = popped c.self.inside.out.items c.self.inside.free.items c.pop.new.self.items (vec_capacity c.self.inside.free) c.pop.result c.unwrap-last.result c.from-seat.result
    c.self.invariant c.pop.ensures.items c.unwrap-last.ensures c.from-seat.ensures in
    subst (λ out. slice_get out c.from-seat.result ≡ Some false) c.self.view_is
    (last_is_free c.self.inside.out.items c.pop.new.self.items c.from-seat.result (vec_capacity c.self.inside.free) free)
