use Rattle.ring_steps.proofs.Bits.{heads_apart, words_apart}
use Rattle.ring_steps.proofs.bit_laws.bits_tell_words_apart.Goals as goal

pub returns-clause-words : goal.returns-clause-words
returns-clause-words c = words_apart

pub returns-clause-heads : goal.returns-clause-heads
returns-clause-heads c = heads_apart
