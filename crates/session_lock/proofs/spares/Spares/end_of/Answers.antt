use Rattle.std.proofs.Common.{◌≤◌, ap, sym, subst, ◌∙◌, arith}
use Rattle.session_lock.specs.Spares.{out_count, without}
use Rattle.session_lock.proofs.Holding.{ended, removed, without_none}
use Rattle.session_lock.proofs.Places.{no_place, place_of, read_of}
use Rattle.session_lock.proofs.spares.Spares.end_of.Goals as goal

pub invariant_of-self : goal.invariant_of-self
invariant_of-self g c =
    let at = place_of (λ m. m.owner) c.as_slice.result.now c.self.inside.mounts.items c.args.owner c.in-Some.place c.in-Some.ensures c.as_slice.ensures.value in
    let left = c.remove.ensures.items ∙ removed c.self.inside.mounts.items c.self.inside.out c.args.owner c.in-Some.place c.self.invariant at in
    ended c.self.inside.mounts.items c.remove.new.self.items c.self.inside.out c.count_out.result c.args.owner c.in-Some.place c.index.result.now c.self.invariant
    (read_of (λ m. m.owner) c.self.inside.mounts.items c.args.owner c.in-Some.place c.index.result.now at c.index.ensures) c.remove.ensures.items left c.count_out.ensures

pub returns-in-Some-clause-dropped : goal.returns-in-Some-clause-dropped
returns-in-Some-clause-dropped g c =
    let at = place_of (λ m. m.owner) c.as_slice.result.now c.self.inside.mounts.items c.args.owner c.in-Some.place c.in-Some.ensures c.as_slice.ensures.value in
    c.remove.ensures.items ∙ removed c.self.inside.mounts.items c.self.inside.out c.args.owner c.in-Some.place c.self.invariant at
    ∙ ap (λ now. without c.args.owner now.mounts) c.self.view_is

pub returns-in_default-clause-dropped : goal.returns-in_default-clause-dropped
returns-in_default-clause-dropped g c =
    let none = no_place (λ m. m.owner) c.as_slice.result.now c.self.inside.mounts.items c.args.owner c.in_default.ensures c.as_slice.ensures.value in
    sym (ap (λ now. now.mounts) c.self.view_is) ∙ without_none c.self.inside.mounts.items c.args.owner none ∙ ap (λ now. without c.args.owner now.mounts) c.self.view_is

pub returns-in-Some-clause-out : goal.returns-in-Some-clause-out
returns-in-Some-clause-out g c =
    let at = place_of (λ m. m.owner) c.as_slice.result.now c.self.inside.mounts.items c.args.owner c.in-Some.place c.in-Some.ensures c.as_slice.ensures.value in
    let left = c.remove.ensures.items ∙ removed c.self.inside.mounts.items c.self.inside.out c.args.owner c.in-Some.place c.self.invariant at in
    let held = ended c.self.inside.mounts.items c.remove.new.self.items c.self.inside.out c.count_out.result c.args.owner c.in-Some.place c.index.result.now c.self.invariant
    (read_of (λ m. m.owner) c.self.inside.mounts.items c.args.owner c.in-Some.place c.index.result.now at c.index.ensures) c.remove.ensures.items left c.count_out.ensures in
    let after = held.out_is in
    let before = c.self.invariant.out_is in
    subst (λ now. out_count c.remove.new.self.items ≤ out_count now.mounts) c.self.view_is (omega (arith, after, before))
