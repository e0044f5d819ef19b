use Rattle.std.proofs.Common.{◌≡◌, true, Option, subst}
use Rattle.std.specs.Option.{option_map}
use Rattle.session_state.specs.declared.session.Session.{Session}
use Rattle.session_state.specs.Lookups.{IsSessionOf, is_open}
use Rattle.session_lock.proofs.Standing.{mount_told}
use Rattle.session_lock.proofs.book.Book.mount_of.Goals as goal

pub returns-clause-open : goal.returns-clause-open
returns-clause-open g c =
    subst (λ now. is_open c.args.conn now.history ≡ true → (session : Option Session) × IsSessionOf now.seats c.args.conn now.history session × (c.mount_of.result ≡ option_map (λ one. one.mount) session)) c.self.view_is
    (mount_told c.self.inside.seats c.self.inside.entries.history c.self.inside.world c.args.conn c.mount_of.result c.self.invariant.seats_are c.self.invariant.stands c.mount_of.ensures)
