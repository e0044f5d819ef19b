use Rattle.std.proofs.Common.{◌≤◌, [], ap, sym, subst, ◌∙◌}
use Rattle.session_state.specs.Stands.{Stands, Tables}
use Rattle.session_lock.proofs.Standing.{opens}
use Rattle.session_lock.proofs.book.Book.with_cut.Goals as goal

pub invariant_of-result : goal.invariant_of-result
invariant_of-result g c =
    let entries = c.new-2.ensures in
    opens c.args.seats c.new.result c.new-2.result c.new-3.result c.new.ensures.opening c.new.ensures.seats
    (subst (Stands []) (sym entries.base) c.new-base.ensures.opening) (ap (λ (t : Tables). t.mounts.seats) entries.base ∙ c.new-base.ensures.seats)
    entries.history entries.kept c.new-3.ensures (subst (λ n. 1 ≤ n) (sym entries.cut) c.requires.cut)
