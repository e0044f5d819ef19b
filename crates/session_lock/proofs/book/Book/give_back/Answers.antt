use Rattle.session_lock.proofs.Standing.{given_back, out_there}
use Rattle.session_lock.proofs.book.Book.give_back.Goals as goal

pub put-requires : goal.put-requires
put-requires g c =
    let written = c.self.inside.entries in
    let kept = c.self.invariant in
    let back = c.back.ensures.yes written.history kept.stands c.if-not-back.false in
    out_there c.self.inside.seats written.history c.self.inside.spares.mounts c.args.mount c.args.seat kept.legal kept.spare back.0

pub invariant_of-self-2 : goal.invariant_of-self-2
invariant_of-self-2 g c =
    let written = c.self.inside.entries in
    let kept = c.self.invariant in
    let back = c.back.ensures.yes written.history kept.stands c.if-not-back.false in
    given_back c.self.inside.seats c.self.inside.world c.back.new.self written c.add.new.self c.self.inside.spares kept c.back.ensures.seats c.args.mount c.args.seat c.args.pass c.put.new.self back
    c.add.ensures c.put.ensures.put c.put.ensures.out
