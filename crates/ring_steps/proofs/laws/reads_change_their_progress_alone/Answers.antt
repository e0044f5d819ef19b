use Rattle.ring_steps.proofs.Moves.{byte_rest, length_rest, slots_rest}
use Rattle.ring_steps.proofs.laws.reads_change_their_progress_alone.Goals as goal

pub returns-clause-invariant : goal.returns-clause-invariant
returns-clause-invariant c = slots_rest

pub returns-clause-len : goal.returns-clause-len
returns-clause-len c = length_rest

pub returns-clause-byte : goal.returns-clause-byte
returns-clause-byte c = byte_rest
