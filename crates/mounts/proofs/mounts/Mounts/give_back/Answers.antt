use Rattle.std.proofs.Common.{refl, false, true, sym, ap, subst, ◌∙◌}
use Rattle.mounts.specs.Kept.{table_of}
use Rattle.mounts.specs.Mounts.{IsSeat, IsSound, with_seat_of}
use Rattle.mounts.proofs.Changes.{no_seat, seat_of, seated, with_seats}
use Rattle.mounts.proofs.Indexed.{found_at, found_nowhere, map-set_same, read_at}
use Rattle.mounts.proofs.Sound.{sound_seat}
use Rattle.mounts.proofs.mounts.Mounts.give_back.Goals as goal

pub returns-in_default-clause-out : goal.returns-in_default-clause-out
returns-in_default-clause-out c h =
    no_seat (table_of c.self.inside) c.args.number c.args.seat true (found_nowhere c.as_slice.result.now c.self.inside.mounts.items c.args.number c.in_default.ensures c.as_slice.ensures.value)
    (subst (λ table. IsSeat table c.args.number c.args.seat true) (sym c.self.view_is) h)

pub returns-then-not-is_out-clause-out : goal.returns-then-not-is_out-clause-out
returns-then-not-is_out-clause-out c h =
    let at = found_at c.as_slice.result.now c.self.inside.mounts.items c.args.number c.in-Some.place c.in-Some.ensures c.as_slice.ensures.value in
    let read = read_at c.self.inside.mounts.items c.args.number c.in-Some.place c.index.result.now at c.index.ensures in
    let out = seat_of (table_of c.self.inside) c.args.number c.in-Some.place c.args.seat true c.index.result.now read (subst (λ table. IsSeat table c.args.number c.args.seat true) (sym c.self.view_is) h) in
    let yes = c.is_out.ensures.1 out in
    absurd (cc)

pub invariant_of-self : goal.invariant_of-self
invariant_of-self c =
    let at = found_at c.as_slice.result.now c.self.inside.mounts.items c.args.number c.in-Some.place c.in-Some.ensures c.as_slice.ensures.value in
    let read = read_at c.self.inside.mounts.items c.args.number c.in-Some.place c.index_mut.result.now at c.index_mut.ensures.value in
    let mounts = seated (table_of c.self.inside) c.args.number c.in-Some.place c.args.seat false c.index_mut.result.now c.give_back.new.self c.self.invariant.sound read c.give_back.ensures in
    record {
      names = c.self.invariant.names ∙ sym (map-set_same (λ mount. mount.name) c.self.inside.mounts.items c.in-Some.place c.index_mut.result.now (with_seats c.index_mut.result.now c.give_back.new.self) read.there refl);
      sound = subst IsSound (sym mounts) (sound_seat c.args.number c.args.seat false (table_of c.self.inside) c.self.invariant.sound);
      few_seats = c.self.invariant.few_seats;
    }

pub returns-clause-out : goal.returns-clause-out
returns-clause-out c =
    let at = found_at c.as_slice.result.now c.self.inside.mounts.items c.args.number c.in-Some.place c.in-Some.ensures c.as_slice.ensures.value in
    let read = read_at c.self.inside.mounts.items c.args.number c.in-Some.place c.index.result.now at c.index.ensures in
    subst (λ table. IsSeat table c.args.number c.args.seat true) c.self.view_is
    (record { mount = c.index.result.now; live = read.live; is = c.is_out.ensures.0 c.if-not-is_out.false })

pub returns-clause-given : goal.returns-clause-given
returns-clause-given c _ =
    let at = found_at c.as_slice.result.now c.self.inside.mounts.items c.args.number c.in-Some.place c.in-Some.ensures c.as_slice.ensures.value in
    let read = read_at c.self.inside.mounts.items c.args.number c.in-Some.place c.index_mut.result.now at c.index_mut.ensures.value in
    let mounts = seated (table_of c.self.inside) c.args.number c.in-Some.place c.args.seat false c.index_mut.result.now c.give_back.new.self c.self.invariant.sound read c.give_back.ensures in
    mounts ∙ ap (with_seat_of c.args.number c.args.seat false) c.self.view_is
