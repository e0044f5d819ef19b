use Rattle.transport_header.proofs.ReadAgain.{read_again, apart}
use Rattle.transport_header.proofs.laws.identifiers.Goals as goal

pub returns : goal.returns
returns c = record { read = read_again; apart = apart }
