use Rattle.std.proofs.Common.{inl, refl}
use Rattle.session_state.proofs.CheckedAnnounce.{room_needed}
use Rattle.session_state.proofs.checks.asking.Asking.with_room_for_mount.Goals as goal

pub returns-else-has_room : goal.returns-else-has_room
returns-else-has_room c = λ history told. inl (refl, λ left. c.if-has_room.ensures (room_needed c.args.self.now history told left))
