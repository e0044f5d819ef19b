use Rattle.ring_steps.proofs.Bits.{begin_bits, known_bits}
use Rattle.ring_steps.proofs.bit_laws.begin_is_one_exchange.Goals as goal

pub returns-clause-where_ : goal.returns-clause-where_
returns-clause-where_ c = known_bits

pub returns-clause-new : goal.returns-clause-new
returns-clause-new c = begin_bits
