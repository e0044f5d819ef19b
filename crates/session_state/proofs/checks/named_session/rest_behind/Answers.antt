use Rattle.std.proofs.Common.{Some}
use Rattle.session_state.proofs.checks.named_session.rest_behind.Goals as goal

pub returns-in-None : goal.returns-in-None
returns-in-None c = λ rest goes. c.in-None.ensures.none (Some rest) goes
