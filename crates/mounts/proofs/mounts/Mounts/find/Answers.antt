use Rattle.std.proofs.Common.{◌≡◌, ◌+◌, ◌-◌, None, Some, suc, length, take, drop, arith, sym, ap, subst, ◌∙◌, length-drop}
use Rattle.std.proofs.lemmas.List.{take_all}
use Rattle.mounts.specs.Find.{IsFoundIn}
use Rattle.mounts.specs.Mounts.{IsSound, named}
use Rattle.mounts.proofs.Finding.{AreTried, found_longest, found_nowhere, none_tried}
use Rattle.mounts.proofs.Sound.{names_nothing}
use Rattle.mounts.proofs.mounts.Mounts.find.Goals as goal
use Rattle.mounts.proofs.mounts.Mounts.find.Goals.{then-path-le-MAX_NAME+in_default, else-path-le-MAX_NAME}

pub loop-end-init : goal.loop-end-init
loop-end-init c =
    let sound = subst IsSound c.self.view_is c.self.invariant.sound in
    let end = c.min-end.ensures in
    let whole : named c.args.path.now c.args.self.now.mounts ≡ None = elim c.if-path-le-MAX_NAME.branch [
      | then-path-le-MAX_NAME+in_default w ↦ sym w.in_default.ensures
      | else-path-le-MAX_NAME w ↦ names_nothing c.args.self.now.next c.args.self.now.seats c.args.self.now.mounts c.args.path.now sound.each (λ name. let most = name.most in omega (arith, most))
    ] in
    record {
      within = omega (arith, end);
      tried = none_tried c.args.self.now.next c.args.self.now.seats c.args.self.now.mounts c.args.path.now c.min-end.result sound.each whole (λ further. omega (arith, end, further));
    }

pub returns-in-Some-named_before-clause-found : goal.returns-in-Some-named_before-clause-found
returns-in-Some-named_before-clause-found c =
    let place = c.loop-end.end - 1 in
    let behind : suc place ≡ c.loop-end.end = omega arith in
    let one : place + 1 ≡ suc place = omega arith in
    let rest : take (length c.args.path.now - (place + 1)) (drop (place + 1) c.args.path.now) ≡ drop (suc place) c.args.path.now =
    take_all (length c.args.path.now - (place + 1)) (drop (place + 1) c.args.path.now) (omega (arith, length-drop (place + 1) c.args.path.now)) ∙ ap (λ n. drop n c.args.path.now) one in
    subst (λ r. IsFoundIn c.args.self.now.mounts c.args.path.now c.in-Some-named_before.mount.now.number (Some r)) (sym rest)
    (found_longest c.args.self.now.mounts c.args.path.now place c.in-Some-named_before.mount.now (omega arith)
    (subst (AreTried c.args.self.now.mounts c.args.path.now) (sym behind) c.loop-end.invariant.tried) c.in-Some-named_before.ensures)

pub returns-clause-nowhere : goal.returns-clause-nowhere
returns-clause-nowhere c =
    let sound = subst IsSound c.self.view_is c.self.invariant.sound in
    found_nowhere c.args.self.now.next c.args.self.now.seats c.args.self.now.mounts c.args.path.now c.loop-end.end sound.each c.loop-end.invariant.tried (omega arith)
