use Rattle.session_state.specs.Judged.{asked_of}
use Rattle.session_state.proofs.Answering.{has_answer}
use Rattle.session_state.proofs.Carried.{carried}
use Rattle.session_state.proofs.world.World.decide_and_copy.Goals as goal

pub returns-clause-ok : goal.returns-clause-ok
returns-clause-ok c history legal stands =
    carried history c.args.self.now c.apply.new.self c.hear.new.self c.args.conn c.args.request.now c.args.given.now c.in_ok-reply.reply legal stands c.requires.open
    c.in_ok-reply.change c.in_ok-reply.ensures.can (c.in_ok-reply.ensures.judged history legal stands) c.in_ok-act.act c.in_ok-act.ensures.ok c.hear.ensures

pub returns-clause-reply : goal.returns-clause-reply
returns-clause-reply c history legal stands =
    has_answer (asked_of c.args.self.now history c.args.conn c.args.request.now) c.args.given.now c.in_ok-reply.reply c.in_ok-reply.change (c.in_ok-reply.ensures.judged history legal stands)
