use Rattle.std.proofs.Common.{◌≡◌, true, subst, sym}
use Rattle.std.specs.Option.{option_copied}
use Rattle.session_state.specs.Lookups.{IsSessionOf, is_open}
use Rattle.session_lock.proofs.Standing.{session_told}
use Rattle.session_lock.proofs.book.Book.session_of.Goals as goal

pub returns-clause-open : goal.returns-clause-open
returns-clause-open g c =
    subst (λ now. is_open c.args.conn now.history ≡ true → IsSessionOf now.seats c.args.conn now.history (option_copied c.session_of.result)) c.self.view_is
    (λ there. subst (λ told. IsSessionOf c.self.inside.seats c.args.conn c.self.inside.entries.history told) (sym c.session_of.ensures)
    (session_told c.self.inside.seats c.self.inside.entries.history c.self.inside.world c.args.conn c.self.invariant.seats_are c.self.invariant.stands there))
