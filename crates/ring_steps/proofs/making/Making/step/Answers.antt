use Rattle.std.proofs.Common.{sym, ap, subst, arith, ◌≤◌, List, length}
use Rattle.ring_steps.specs.declared.made.Made.{Made}
use Rattle.ring_steps.specs.Making.{IsSound, SoFar}
use Rattle.ring_steps.specs.Scripts.{calls_of}
use Rattle.ring_steps.proofs.RunningOut.{sound_ready}
use Rattle.ring_steps.proofs.making.Making.step.Goals as goal

pub step-requires-clause-room : goal.step-requires-clause-room
step-requires-clause-room c =
    let calls = calls_of c.args.script.now in
    let so : SoFar = record { at = c.self.inside.progress; steps = c.self.inside.made.items } in
    let sound = subst (λ (s : SoFar). IsSound calls s) (sym c.self.view_is) c.requires.sound in
    let same = ap (λ (ms : List Made). length ms) c.as_slice-so_far.ensures.value in
    let fits = c.as_slice-so_far.type_inv.1 in
    let few : length so.steps ≤ 1152921504606846976 = omega arith in
    (sound_ready calls so sound few).room
