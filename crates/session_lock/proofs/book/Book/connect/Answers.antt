use Rattle.std.proofs.Common.{nat_le, if◌then◌else◌, None, Some, arith, ap, subst, sym, ◌∙◌}
use Rattle.session_lock.specs.Books.{IsKept}
use Rattle.session_lock.specs.Entries.{Written, base_in}
use Rattle.session_lock.proofs.Standing.{connected, cut_to, legal_there, roomier}
use Rattle.session_lock.proofs.book.Book.connect.Goals as goal

pub invariant_of-self-2 : goal.invariant_of-self-2
invariant_of-self-2 g c =
    let seats = c.self.inside.seats in
    let tables = c.self.inside.world in
    let written = c.self.inside.entries in
    let held = c.self.inside.spares in
    let kept = c.self.invariant in
    let more = roomier seats tables written c.reserve.new.self held kept c.reserve.ensures.kept c.reserve.ensures.more in
    let legal = legal_there seats tables c.connect.new.self c.reserve.new.self c.add.new.self held more c.connect.ensures.seats in
    let come = c.in_ok-conn.ensures.ok c.reserve.new.self.history legal more.stands in
    let due = c.in_ok-next.ensures.base ∙ ap (λ (w : Written). if nat_le w.cut w.kept then Some tables else None) c.reserve.ensures.kept in
    let adds = c.add.ensures in
    let opened = c.count_open.ensures c.reserve.new.self.history more.stands in
    let out = c.count_out.ensures in
    let reserved = c.in_ok-reserve.ensures.ok in
    let room = adds.room in
    connected seats tables c.connect.new.self c.reserve.new.self c.add.new.self held more c.connect.ensures.seats (nat_le written.cut written.kept) (base_in c.in_ok-next.next) c.in_ok-conn.conn due come adds
    (cut_to written c.reserve.new.self c.add.new.self (base_in c.in_ok-next.next) tables kept.some c.reserve.ensures.kept due adds) (omega (arith, opened, out, reserved, room))

pub invariant_of-self : goal.invariant_of-self
invariant_of-self g c = roomier c.self.inside.seats c.self.inside.world c.self.inside.entries c.reserve.new.self c.self.inside.spares c.self.invariant c.reserve.ensures.kept c.reserve.ensures.more

pub invariant_of-self-in_err-conn : goal.invariant_of-self-in_err-conn
invariant_of-self-in_err-conn g c =
    subst (λ tables. IsKept c.self.inside.seats tables c.reserve.new.self c.self.inside.spares) (sym c.in_err-conn.ensures.err)
    (roomier c.self.inside.seats c.self.inside.world c.self.inside.entries c.reserve.new.self c.self.inside.spares c.self.invariant c.reserve.ensures.kept c.reserve.ensures.more)
