use Rattle.std.proofs.Common.{◌<◌, refl, false, true, not, sym, ap, subst, ◌∙◌}
use Rattle.std.specs.List.{count_by}
use Rattle.mounts.specs.Kept.{table_of}
use Rattle.mounts.specs.Mounts.{IsSeat, IsSound, with_seat_of}
use Rattle.mounts.proofs.Changes.{no_free_seat, no_seat, seated, with_seats}
use Rattle.mounts.proofs.Indexed.{found_at, found_nowhere, map-set_same, read_at}
use Rattle.mounts.proofs.Sound.{sound_seat}
use Rattle.mounts.proofs.mounts.Mounts.take_seat.Goals as goal

pub returns-in_default-clause-none : goal.returns-in_default-clause-none
returns-in_default-clause-none c seat h =
    no_seat (table_of c.self.inside) c.args.number seat false (found_nowhere c.as_slice.result.now c.self.inside.mounts.items c.args.number c.in_default.ensures c.as_slice.ensures.value)
    (subst (λ table. IsSeat table c.args.number seat false) (sym c.self.view_is) h)

pub returns-then-not-has_free-clause-none : goal.returns-then-not-has_free-clause-none
returns-then-not-has_free-clause-none c seat h =
    let at = found_at c.as_slice.result.now c.self.inside.mounts.items c.args.number c.in-Some.place c.in-Some.ensures c.as_slice.ensures.value in
    let read = read_at c.self.inside.mounts.items c.args.number c.in-Some.place c.index.result.now at c.index.ensures in
    let none : 0 < count_by not c.index.result.now.seats → ⊥ = λ some. let yes = c.has_free.ensures.1 some in absurd (cc) in
    no_free_seat (table_of c.self.inside) c.args.number c.in-Some.place seat c.index.result.now read none
    (subst (λ table. IsSeat table c.args.number seat false) (sym c.self.view_is) h)

pub invariant_of-self : goal.invariant_of-self
invariant_of-self c =
    let at = found_at c.as_slice.result.now c.self.inside.mounts.items c.args.number c.in-Some.place c.in-Some.ensures c.as_slice.ensures.value in
    let read = read_at c.self.inside.mounts.items c.args.number c.in-Some.place c.index_mut.result.now at c.index_mut.ensures.value in
    let mounts = seated (table_of c.self.inside) c.args.number c.in-Some.place c.take-seat.result true c.index_mut.result.now c.take-seat.new.self c.self.invariant.sound read c.take-seat.ensures.taken in
    record {
      names = c.self.invariant.names ∙ sym (map-set_same (λ mount. mount.name) c.self.inside.mounts.items c.in-Some.place c.index_mut.result.now (with_seats c.index_mut.result.now c.take-seat.new.self) read.there refl);
      sound = subst IsSound (sym mounts) (sound_seat c.args.number c.take-seat.result true (table_of c.self.inside) c.self.invariant.sound);
      few_seats = c.self.invariant.few_seats;
    }

pub returns-clause-free : goal.returns-clause-free
returns-clause-free c =
    let at = found_at c.as_slice.result.now c.self.inside.mounts.items c.args.number c.in-Some.place c.in-Some.ensures c.as_slice.ensures.value in
    let read = read_at c.self.inside.mounts.items c.args.number c.in-Some.place c.index_mut.result.now at c.index_mut.ensures.value in
    subst (λ table. IsSeat table c.args.number c.take-seat.result false) c.self.view_is
    (record { mount = c.index_mut.result.now; live = read.live; is = c.take-seat.ensures.free })

pub returns-clause-taken : goal.returns-clause-taken
returns-clause-taken c =
    let at = found_at c.as_slice.result.now c.self.inside.mounts.items c.args.number c.in-Some.place c.in-Some.ensures c.as_slice.ensures.value in
    let read = read_at c.self.inside.mounts.items c.args.number c.in-Some.place c.index_mut.result.now at c.index_mut.ensures.value in
    let mounts = seated (table_of c.self.inside) c.args.number c.in-Some.place c.take-seat.result true c.index_mut.result.now c.take-seat.new.self c.self.invariant.sound read c.take-seat.ensures.taken in
    mounts ∙ ap (with_seat_of c.args.number c.take-seat.result true) c.self.view_is
