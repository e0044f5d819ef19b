use Rattle.ring_steps.proofs.Writing.{write_length_keeps, write_byte_keeps}
use Rattle.ring_steps.proofs.laws.writes_keep_the_invariant.Goals as goal

pub returns-clause-len : goal.returns-clause-len
returns-clause-len c = λ s is. write_length_keeps s is.sound is.within

pub returns-clause-byte : goal.returns-clause-byte
returns-clause-byte c = λ s is more. write_byte_keeps s is.sound is.within more
