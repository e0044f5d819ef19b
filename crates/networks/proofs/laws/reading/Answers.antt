use Rattle.networks.proofs.Reading.{never_both, one_address, one_bits}
use Rattle.networks.proofs.laws.reading.Goals as goal

pub returns : goal.returns
returns c = record { address = one_address; bits = one_bits; refused = never_both }
