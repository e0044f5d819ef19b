use Rattle.std.proofs.Common.{◌∙◌, sym}
use Rattle.session_lock.proofs.Standing.{hung_up, legal_there}
use Rattle.session_lock.proofs.book.Book.hangup.Goals as goal

pub invariant_of-self : goal.invariant_of-self
invariant_of-self g c =
    let tables = c.self.inside.world in
    let written = c.self.inside.entries in
    let held = c.self.inside.spares in
    let kept = c.self.invariant in
    let there = sym (c.is_open.ensures.open written.history kept.stands) ∙ c.if-not-is_open.false in
    let gone = c.hangup-act.ensures.ok written.history (legal_there c.self.inside.seats tables c.hangup-act.new.self written c.add.new.self held kept c.hangup-act.ensures.seats) kept.stands there in
    hung_up c.self.inside.seats tables c.hangup-act.new.self written c.add.new.self held kept c.hangup-act.ensures.seats c.args.conn c.hangup-act.result c.end_of.new.self gone
    c.add.ensures c.end_of.ensures.dropped c.end_of.ensures.out there
