use Rattle.transport_header.proofs.SpecForms.{spec_told, spec_only}
use Rattle.transport_header.proofs.laws.specs.Goals as goal

pub returns : goal.returns
returns c = record { reads = spec_told; only = spec_only }
