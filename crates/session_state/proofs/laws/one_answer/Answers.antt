use Rattle.session_state.proofs.OneLegal.{one_expiry, one_legal_act, one_legal_reply}
use Rattle.session_state.proofs.laws.one_answer.Goals as goal

pub returns-clause-reply : goal.returns-clause-reply
returns-clause-reply c = λ seats history conn request given one other act behind legal a b. one_legal_reply seats history conn request given one other act behind legal a b

pub returns-clause-act : goal.returns-clause-act
returns-clause-act c = λ seats history conn request given one other act behind legal a b. one_legal_act seats history conn request given one other act behind legal a b

pub returns-clause-expiry : goal.returns-clause-expiry
returns-clause-expiry c = λ seats history conn heard now other later act behind legal a b. one_expiry seats history conn heard now other later act behind legal a b
