use Rattle.std.proofs.Common.{◌≡◌, ◌<◌, Some, not, count_by, inl, refl, rules}
use Rattle.mounts.specs.Mounts.{numbered}
use Rattle.session_state.specs.declared.session.State.TheVariants.{Ready}
use Rattle.session_state.proofs.CheckedPlay.{seat_fails, seat_passes}
use Rattle.session_state.proofs.checks.asking.Asking.with_free_seat.Goals as goal

pub returns-then-has_free : goal.returns-then-has_free
returns-then-has_free c =
    let at : numbered c.args.session.now.mount c.args.self.now.mounts.now.mounts ≡ Some c.in-Some.mount.now = search rules in
    let some : 0 < count_by not c.in-Some.mount.now.seats = search rules in
    λ history told. (seat_passes c.args.self.now c.args.session.now c.in-Some.mount.now c.requires.has at some history told, tt)

pub returns-else-has_free : goal.returns-else-has_free
returns-else-has_free c =
    let at : numbered c.args.session.now.mount c.args.self.now.mounts.now.mounts ≡ Some c.in-Some.mount.now = search rules in
    let none : 0 < count_by not c.in-Some.mount.now.seats → ⊥ = search rules in
    let ready : c.args.session.now.state ≡ Ready = search rules in
    λ history told. inl (refl, seat_fails c.args.self.now c.args.session.now c.in-Some.mount.now c.requires.has ready at none history told)
