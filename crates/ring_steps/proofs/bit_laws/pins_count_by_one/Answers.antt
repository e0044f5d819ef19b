use Rattle.ring_steps.proofs.Bits.{failed_bits, pin_bits, unpin_bits}
use Rattle.ring_steps.proofs.bit_laws.pins_count_by_one.Goals as goal

pub returns-clause-pin : goal.returns-clause-pin
returns-clause-pin c = pin_bits

pub returns-clause-unpin : goal.returns-clause-unpin
returns-clause-unpin c = unpin_bits

pub returns-clause-failed : goal.returns-clause-failed
returns-clause-failed c = failed_bits
