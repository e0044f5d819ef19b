use Rattle.std.proofs.Common.{◌≡◌, ◌∷◌, true, None, Some, refl, ap, sym, ◌∙◌, subst}
use Rattle.session_state.specs.declared.act.Act.TheVariants as acts
use Rattle.session_state.specs.declared.entry.Entry.TheVariants.{HangUp}
use Rattle.session_state.specs.History.{History}
use Rattle.session_state.specs.Legal.{IsHangUp, IsLegal}
use Rattle.session_state.specs.Lookups.{is_open}
use Rattle.session_state.specs.Replies.{pause_act}
use Rattle.session_state.specs.Stands.{Stands, Tables}
use Rattle.session_state.proofs.Going.{goes_so}
use Rattle.session_state.proofs.world.World.hangup.Goals as goal

pub returns-in-Some-owned_by-clause-ok : goal.returns-in-Some-owned_by-clause-ok
returns-in-Some-owned_by-clause-ok c =
    let removed = c.in-Some.ensures in
    subst (λ (now : Tables). (history : History) → IsLegal now.mounts.seats history → Stands history now → is_open c.args.conn history ≡ true
    → IsHangUp now.mounts.seats history c.args.conn acts.End × Stands (HangUp c.args.conn acts.End ∷ history)
    (record { mounts = c.end.new.self; connections = c.remove.new.self.entries; came = c.self.inside.came; begun = c.self.inside.begun })) c.self.view_is
    (λ history legal stands there. goes_so history (record { mounts = c.self.inside.mounts; connections = c.self.inside.connections.entries; came = c.self.inside.came; begun = c.self.inside.begun })
    c.end.new.self c.remove.new.self.entries c.args.conn c.in-Some.connection (Some c.in-Some-owned_by.mount.now) acts.End stands c.in-Some-owned_by.ensures c.end.ensures
    (record { each = removed.updates.0 }) removed.len (sym removed.value) refl)

pub returns-clause-ok : goal.returns-clause-ok
returns-clause-ok c =
    let removed = c.in-Some.ensures in
    subst (λ (now : Tables). (history : History) → IsLegal now.mounts.seats history → Stands history now → is_open c.args.conn history ≡ true
    → IsHangUp now.mounts.seats history c.args.conn c.seat_given_up.result × Stands (HangUp c.args.conn c.seat_given_up.result ∷ history)
    (record { mounts = c.self.inside.mounts; connections = c.remove.new.self.entries; came = c.self.inside.came; begun = c.self.inside.begun })) c.self.view_is
    (λ history legal stands there. goes_so history (record { mounts = c.self.inside.mounts; connections = c.self.inside.connections.entries; came = c.self.inside.came; begun = c.self.inside.begun })
    c.self.inside.mounts c.remove.new.self.entries c.args.conn c.in-Some.connection None c.seat_given_up.result stands c.in_default-owned_by.ensures refl
    (record { each = removed.updates.0 }) removed.len (sym removed.value) (c.seat_given_up.ensures ∙ ap pause_act c.as_ref.ensures.value))
