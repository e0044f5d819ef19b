use Rattle.client_laws.proofs.Transports.{asks_to_record}
use Rattle.client_laws.proofs.laws.transports.Goals as goal

pub returns : goal.returns
returns c = asks_to_record
