use Rattle.transport_header.proofs.Modes.{mode_read, mode_only}
use Rattle.transport_header.proofs.laws.modes.Goals as goal

pub returns : goal.returns
returns c = record { reads = mode_read; only = mode_only }
