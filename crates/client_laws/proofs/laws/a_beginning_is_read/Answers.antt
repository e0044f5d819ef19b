use Rattle.client_laws.proofs.Beginnings.{beginning_is, beginning_read}
use Rattle.client_laws.proofs.laws.a_beginning_is_read.Goals as goal

pub returns : goal.returns
returns c = record { reads = beginning_read; always = beginning_is }
