use Rattle.transport_header.proofs.Grammar.{reads, only}
use Rattle.transport_header.proofs.laws.interleaving.Goals as goal

pub returns : goal.returns
returns c = record { reads = reads; only = only }
