use Rattle.session_state.proofs.OneReply.{one_reply}
use Rattle.session_state.proofs.laws.one_reply.Goals as goal

pub returns : goal.returns
returns c = λ asked given one other act behind looks legal a b. one_reply asked looks legal given one other act behind a b
