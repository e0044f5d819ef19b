use Rattle.ring_steps.proofs.Reading.{read_length_keeps, read_byte_keeps}
use Rattle.ring_steps.proofs.laws.reads_keep_the_invariant.Goals as goal

pub returns-clause-len : goal.returns-clause-len
returns-clause-len c = λ s i x is. read_length_keeps s i x is.sound is.there is.within

pub returns-clause-byte : goal.returns-clause-byte
returns-clause-byte c = λ s i x is more. read_byte_keeps s i x is.sound is.there is.within more
