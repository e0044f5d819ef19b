use Rattle.ring_steps.proofs.Bits.{head_fits, pins_fit, word_fits}
use Rattle.ring_steps.proofs.bit_laws.words_fit.Goals as goal

pub returns-clause-word : goal.returns-clause-word
returns-clause-word c = word_fits

pub returns-clause-head : goal.returns-clause-head
returns-clause-head c = head_fits

pub returns-clause-pins : goal.returns-clause-pins
returns-clause-pins c = pins_fit
