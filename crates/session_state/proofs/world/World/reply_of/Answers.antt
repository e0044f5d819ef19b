use Rattle.session_state.specs.Judged.{asked_of}
use Rattle.session_state.proofs.Answering.{has_answer}
use Rattle.session_state.proofs.world.World.reply_of.Goals as goal

pub returns : goal.returns
returns c history legal stands =
    has_answer (asked_of c.args.self.now history c.args.conn c.args.request.now) c.args.given.now c.in_ok-reply.reply c.in_ok-reply.field-0-1 (c.in_ok-reply.ensures.judged history legal stands)
