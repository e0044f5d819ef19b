use Rattle.std.proofs.Common.{◌+◌, None, arith, ap, sym, ◌∙◌}
use Rattle.std.specs.List.{count_by}
use Rattle.std.specs.Prelude.{is_none}
use Rattle.session_lock.specs.Spares.{pass_at, with_pass}
use Rattle.session_lock.proofs.Holding.{changed, held_changed, more_if_some, no_pass, pass_of, with_none}
use Rattle.session_lock.proofs.Places.{no_place, place_of, read_of}
use Rattle.session_lock.proofs.spares.Spares.take.Goals as goal

pub returns-in_default-clause-pass : goal.returns-in_default-clause-pass
returns-in_default-clause-pass g c =
    let none = no_place (λ m. m.number) c.as_slice.result.now c.self.inside.mounts.items c.args.number c.in_default.ensures c.as_slice.ensures.value in
    no_pass c.self.inside.mounts.items c.args.number c.args.seat none ∙ ap (λ now. pass_at c.args.number c.args.seat now.mounts) c.self.view_is

pub returns-in_default-clause-taken : goal.returns-in_default-clause-taken
returns-in_default-clause-taken g c =
    let none = no_place (λ m. m.number) c.as_slice.result.now c.self.inside.mounts.items c.args.number c.in_default.ensures c.as_slice.ensures.value in
    sym (ap (λ now. now.mounts) c.self.view_is) ∙ with_none c.self.inside.mounts.items c.args.number c.args.seat None none
    ∙ ap (λ now. with_pass c.args.number c.args.seat None now.mounts) c.self.view_is

pub invariant_of-self : goal.invariant_of-self
invariant_of-self g c =
    let at = place_of (λ m. m.number) c.as_slice.result.now c.self.inside.mounts.items c.args.number c.in-Some.place c.in-Some.ensures c.as_slice.ensures.value in
    let read = read_of (λ m. m.number) c.self.inside.mounts.items c.args.number c.in-Some.place c.index_mut.result.now at c.index_mut.ensures.value in
    let more = more_if_some c.index_mut.result.now.passes c.args.seat c.take-pass.result c.take-pass.ensures.pass (sym c.is_some.ensures ∙ c.if-is_some.true) in
    let now = ap (count_by is_none) c.take-pass.ensures.taken in
    held_changed c.self.inside.mounts.items c.self.inside.out (c.self.inside.out + 1) c.args.number c.in-Some.place c.index_mut.result.now c.take-pass.new.self c.self.invariant read
    (omega (arith, more, now))

pub returns-then-is_some-clause-pass : goal.returns-then-is_some-clause-pass
returns-then-is_some-clause-pass g c =
    let at = place_of (λ m. m.number) c.as_slice.result.now c.self.inside.mounts.items c.args.number c.in-Some.place c.in-Some.ensures c.as_slice.ensures.value in
    let read = read_of (λ m. m.number) c.self.inside.mounts.items c.args.number c.in-Some.place c.index_mut.result.now at c.index_mut.ensures.value in
    c.take-pass.ensures.pass ∙ pass_of c.self.inside.mounts.items c.args.number c.in-Some.place c.args.seat c.index_mut.result.now read
    ∙ ap (λ now. pass_at c.args.number c.args.seat now.mounts) c.self.view_is

pub returns-then-is_some-clause-taken : goal.returns-then-is_some-clause-taken
returns-then-is_some-clause-taken g c =
    let at = place_of (λ m. m.number) c.as_slice.result.now c.self.inside.mounts.items c.args.number c.in-Some.place c.in-Some.ensures c.as_slice.ensures.value in
    let read = read_of (λ m. m.number) c.self.inside.mounts.items c.args.number c.in-Some.place c.index_mut.result.now at c.index_mut.ensures.value in
    changed c.self.inside.mounts.items c.self.inside.out c.args.number c.in-Some.place c.args.seat None c.index_mut.result.now c.take-pass.new.self c.self.invariant read c.take-pass.ensures.taken
    ∙ ap (λ now. with_pass c.args.number c.args.seat None now.mounts) c.self.view_is

pub returns-else-is_some-clause-pass : goal.returns-else-is_some-clause-pass
returns-else-is_some-clause-pass g c =
    let at = place_of (λ m. m.number) c.as_slice.result.now c.self.inside.mounts.items c.args.number c.in-Some.place c.in-Some.ensures c.as_slice.ensures.value in
    let read = read_of (λ m. m.number) c.self.inside.mounts.items c.args.number c.in-Some.place c.index_mut.result.now at c.index_mut.ensures.value in
    c.take-pass.ensures.pass ∙ pass_of c.self.inside.mounts.items c.args.number c.in-Some.place c.args.seat c.index_mut.result.now read
    ∙ ap (λ now. pass_at c.args.number c.args.seat now.mounts) c.self.view_is

pub returns-else-is_some-clause-taken : goal.returns-else-is_some-clause-taken
returns-else-is_some-clause-taken g c =
    let at = place_of (λ m. m.number) c.as_slice.result.now c.self.inside.mounts.items c.args.number c.in-Some.place c.in-Some.ensures c.as_slice.ensures.value in
    let read = read_of (λ m. m.number) c.self.inside.mounts.items c.args.number c.in-Some.place c.index_mut.result.now at c.index_mut.ensures.value in
    changed c.self.inside.mounts.items c.self.inside.out c.args.number c.in-Some.place c.args.seat None c.index_mut.result.now c.take-pass.new.self c.self.invariant read c.take-pass.ensures.taken
    ∙ ap (λ now. with_pass c.args.number c.args.seat None now.mounts) c.self.view_is
