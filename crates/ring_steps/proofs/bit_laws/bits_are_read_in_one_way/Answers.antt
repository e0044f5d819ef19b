use Rattle.ring_steps.proofs.Bits.{head_read, number_read, pins_read, writing_read}
use Rattle.ring_steps.proofs.bit_laws.bits_are_read_in_one_way.Goals as goal

pub returns-clause-pins : goal.returns-clause-pins
returns-clause-pins c = pins_read

pub returns-clause-writing : goal.returns-clause-writing
returns-clause-writing c = writing_read

pub returns-clause-number : goal.returns-clause-number
returns-clause-number c = number_read

pub returns-clause-closed : goal.returns-clause-closed
returns-clause-closed c = λ h. (head_read h).0

pub returns-clause-len : goal.returns-clause-len
returns-clause-len c = λ h. (head_read h).1
