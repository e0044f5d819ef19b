use Rattle.std.proofs.Common.{◌+◌, ◌∷◌, refl, ap, is_some, sym, subst, ◌∙◌}
use Rattle.session_state.specs.declared.entry.Entry.TheVariants.{Expire}
use Rattle.session_state.specs.Legal.{IsExpiry, IsLegal}
use Rattle.session_lock.specs.Spares.{unended}
use Rattle.session_lock.proofs.Standing.{ended_with, expired, one_more, room_there, seen}
use Rattle.session_lock.proofs.book.Book.expire.Goals as goal

pub returns-in_err-act-clause-none : goal.returns-in_err-act-clause-none
returns-in_err-act-clause-none g c none act expiry =
    let kept = c.self.invariant in
    let mine = subst (λ now. IsExpiry now.seats now.history c.args.conn c.args.heard c.args.now act) (sym c.self.view_is) expiry in
    c.in_err-act.ensures.none refl c.self.inside.entries.history act kept.stands (subst (λ n. IsExpiry n c.self.inside.entries.history c.args.conn c.args.heard c.args.now act) (sym kept.seats_are) mine)

pub add-requires-clause-room : goal.add-requires-clause-room
add-requires-clause-room g c =
    let written = c.self.inside.entries in
    let kept = c.self.invariant in
    let legal = subst (λ n. IsLegal n written.history) (sym kept.seats_are) kept.legal in
    let ends = c.in_ok-act.ensures.ends written.history legal kept.stands in
    room_there written.history c.args.conn _ written.room (ap is_some ends.0.has.first) kept.room

pub invariant_of-self-2 : goal.invariant_of-self-2
invariant_of-self-2 g c =
    let written = c.self.inside.entries in
    let kept = c.self.invariant in
    let legal = subst (λ n. IsLegal n written.history) (sym kept.seats_are) kept.legal in
    let ends = c.in_ok-act.ensures.ends written.history legal kept.stands in
    expired c.self.inside.seats c.self.inside.world c.expire.new.self written c.add.new.self c.self.inside.spares kept c.expire.ensures.seats c.args.conn c.args.heard c.args.now c.in_ok-act.act c.end_with.new.self
    ends c.add.ensures c.end_with.ensures.dropped c.end_with.ensures.out

pub returns-clause-ends : goal.returns-clause-ends
returns-clause-ends g c =
    let spares = c.self.inside.spares.mounts in
    let entry = Expire c.args.conn c.args.heard c.args.now c.in_ok-act.act in
    one_more c.self.inside.seats c.self.inside.entries c.add.new.self entry (unended entry spares) c.end_with.new.self.mounts c.add.ensures
    (c.end_with.ensures.dropped ∙ ended_with c.self.inside.seats c.args.conn c.args.heard c.args.now c.in_ok-act.act spares)
    ∙ ap (λ now. seen now.seats now.cut (entry ∷ now.history) (now.kept + 1) (unended entry now.spares)) c.self.view_is
