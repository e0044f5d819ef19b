use Rattle.client_laws.proofs.Known.{session_is}
use Rattle.client_laws.proofs.laws.sessions.Goals as goal

pub returns : goal.returns
returns c = session_is
