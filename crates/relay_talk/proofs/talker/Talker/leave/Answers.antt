use Rattle.relay_talk.proofs.Leaving.{leaves_pass}
use Rattle.relay_talk.proofs.talker.Talker.leave.Goals as goal

pub returns-clause-back : goal.returns-clause-back
returns-clause-back c =
    rw c.close.ensures
    (leaves_pass c.args.self.now.book c.hangup-act.new.self c.carry_out.new.self.book c.hangup-act.result c.args.self.now.seat c.carry_out.ensures.settled c.carry_out.ensures.back
    c.args.self.now.book.seats c.requires.seats (c.hangup-act.ensures.is c.requires.open) (c.hangup-act.ensures.open c.requires.open))
