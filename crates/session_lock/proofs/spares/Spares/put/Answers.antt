use Rattle.std.proofs.Common.{◌≡◌, ◌+◌, ◌-◌, Some, arith, ap, sym, subst, ◌∙◌, slice_set}
use Rattle.std.specs.List.{count_by}
use Rattle.std.specs.Prelude.{is_none}
use Rattle.session_lock.specs.Held.{IsOutOf}
use Rattle.session_lock.specs.Spares.{out_count, with_pass}
use Rattle.session_lock.proofs.Holding.{changed, held_changed, less_out, out_at, read_none, some_out, with_passes}
use Rattle.session_lock.proofs.Places.{no_place, place_of, read_of}
use Rattle.session_lock.proofs.spares.Spares.put.Goals as goal

pub put-requires : goal.put-requires
put-requires g c =
    let at = place_of (λ m. m.number) c.as_slice.result.now c.self.inside.mounts.items c.args.number c.in-Some.place c.in-Some.ensures c.as_slice.ensures.value in
    let read = read_of (λ m. m.number) c.self.inside.mounts.items c.args.number c.in-Some.place c.index_mut.result.now at c.index_mut.ensures.value in
    let out = subst (λ now. IsOutOf now.mounts c.args.number c.args.seat) (sym c.self.view_is) c.requires in
    (read_none c.index_mut.result.now.passes c.args.seat (out_at c.self.inside.mounts.items c.args.number c.in-Some.place c.args.seat c.index_mut.result.now read out)).0

pub overflow_sub-self : goal.overflow_sub-self
overflow_sub-self g c =
    let at = place_of (λ m. m.number) c.as_slice.result.now c.self.inside.mounts.items c.args.number c.in-Some.place c.in-Some.ensures c.as_slice.ensures.value in
    let read = read_of (λ m. m.number) c.self.inside.mounts.items c.args.number c.in-Some.place c.index_mut.result.now at c.index_mut.ensures.value in
    let out = subst (λ now. IsOutOf now.mounts c.args.number c.args.seat) (sym c.self.view_is) c.requires in
    some_out c.self.inside.mounts.items c.self.inside.out c.args.number c.in-Some.place c.args.seat c.index_mut.result.now c.args.pass c.self.invariant read
    (out_at c.self.inside.mounts.items c.args.number c.in-Some.place c.args.seat c.index_mut.result.now read out)

pub invariant_of-self : goal.invariant_of-self
invariant_of-self g c =
    let at = place_of (λ m. m.number) c.as_slice.result.now c.self.inside.mounts.items c.args.number c.in-Some.place c.in-Some.ensures c.as_slice.ensures.value in
    let read = read_of (λ m. m.number) c.self.inside.mounts.items c.args.number c.in-Some.place c.index_mut.result.now at c.index_mut.ensures.value in
    let out = out_at c.self.inside.mounts.items c.args.number c.in-Some.place c.args.seat c.index_mut.result.now read (subst (λ now. IsOutOf now.mounts c.args.number c.args.seat) (sym c.self.view_is) c.requires) in
    let some = some_out c.self.inside.mounts.items c.self.inside.out c.args.number c.in-Some.place c.args.seat c.index_mut.result.now c.args.pass c.self.invariant read out in
    let less = less_out c.index_mut.result.now.passes c.args.seat c.args.pass out in
    let now = ap (count_by is_none) c.put.ensures in
    held_changed c.self.inside.mounts.items c.self.inside.out (c.self.inside.out - 1) c.args.number c.in-Some.place c.index_mut.result.now c.put.new.self c.self.invariant read
    (omega (arith, some, less, now))

pub returns-in-Some-clause-put : goal.returns-in-Some-clause-put
returns-in-Some-clause-put g c =
    let at = place_of (λ m. m.number) c.as_slice.result.now c.self.inside.mounts.items c.args.number c.in-Some.place c.in-Some.ensures c.as_slice.ensures.value in
    let read = read_of (λ m. m.number) c.self.inside.mounts.items c.args.number c.in-Some.place c.index_mut.result.now at c.index_mut.ensures.value in
    changed c.self.inside.mounts.items c.self.inside.out c.args.number c.in-Some.place c.args.seat (Some c.args.pass) c.index_mut.result.now c.put.new.self c.self.invariant read c.put.ensures
    ∙ ap (λ now. with_pass c.args.number c.args.seat (Some c.args.pass) now.mounts) c.self.view_is

pub returns-in-Some-clause-out : goal.returns-in-Some-clause-out
returns-in-Some-clause-out g c =
    let at = place_of (λ m. m.number) c.as_slice.result.now c.self.inside.mounts.items c.args.number c.in-Some.place c.in-Some.ensures c.as_slice.ensures.value in
    let read = read_of (λ m. m.number) c.self.inside.mounts.items c.args.number c.in-Some.place c.index_mut.result.now at c.index_mut.ensures.value in
    let out = out_at c.self.inside.mounts.items c.args.number c.in-Some.place c.args.seat c.index_mut.result.now read (subst (λ now. IsOutOf now.mounts c.args.number c.args.seat) (sym c.self.view_is) c.requires) in
    let some = some_out c.self.inside.mounts.items c.self.inside.out c.args.number c.in-Some.place c.args.seat c.index_mut.result.now c.args.pass c.self.invariant read out in
    let less = less_out c.index_mut.result.now.passes c.args.seat c.args.pass out in
    let now = ap (count_by is_none) c.put.ensures in
    let held = held_changed c.self.inside.mounts.items c.self.inside.out (c.self.inside.out - 1) c.args.number c.in-Some.place c.index_mut.result.now c.put.new.self c.self.invariant read
    (omega (arith, some, less, now)) in
    let after = held.out_is in
    let before = c.self.invariant.out_is in
    subst (λ now. out_count (slice_set c.self.inside.mounts.items c.in-Some.place (with_passes c.index_mut.result.now c.put.new.self)) + 1 ≡ out_count now.mounts) c.self.view_is (omega (arith, after, before, some))

pub returns-in_default : goal.returns-in_default
returns-in_default g c =
    let none = no_place (λ m. m.number) c.as_slice.result.now c.self.inside.mounts.items c.args.number c.in_default.ensures c.as_slice.ensures.value in
    let there = (subst (λ now. IsOutOf now.mounts c.args.number c.args.seat) (sym c.self.view_is) c.requires).there in
    absurd (cc)
