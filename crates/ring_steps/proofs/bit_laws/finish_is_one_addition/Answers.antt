use Rattle.ring_steps.proofs.Bits.{finish_bits}
use Rattle.ring_steps.proofs.bit_laws.finish_is_one_addition.Goals as goal

pub returns : goal.returns
returns c = finish_bits
