use Rattle.std.proofs.Common.{◌+◌, ◌^◌, ◌<◌, ◌∷◌, length, subst, sym}
use Rattle.session_state.specs.declared.entry.Entry.TheVariants.{Connect}
use Rattle.session_state.specs.History.{History}
use Rattle.session_state.specs.Legal.{Comes, IsLegal}
use Rattle.session_state.specs.Stands.{Stands, Tables}
use Rattle.session_state.proofs.Coming.{connects_so}
use Rattle.session_state.proofs.world.World.connect.Goals as goal

pub returns-clause-ok : goal.returns-clause-ok
returns-clause-ok c =
    let few = subst (λ (now : Tables). length now.connections < 1024) (sym c.self.view_is) (c.may_come.ensures.few c.if-not-may_come.false) in
    let left = subst (λ (now : Tables). now.came < 2 ^ 63) (sym c.self.view_is) (c.may_come.ensures.left c.if-not-may_come.false) in
    let insert = c.in_ok-insert.ensures in
    subst (λ (now : Tables). (history : History) → IsLegal now.mounts.seats history → Stands history now → Comes history (c.self.inside.came + 1) × Stands (Connect (c.self.inside.came + 1) ∷ history)
    (record { mounts = c.self.inside.mounts; connections = c.insert.new.self.entries; came = c.self.inside.came + 1; begun = c.self.inside.begun })) c.self.view_is
    (λ history legal stands. connects_so history (record { mounts = c.self.inside.mounts; connections = c.self.inside.connections.entries; came = c.self.inside.came; begun = c.self.inside.begun })
    c.insert.new.self.entries c.in_ok-insert.field-0 legal stands few left (record { each = insert.updates.0 }) insert.old insert.len)
