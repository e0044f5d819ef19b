use Rattle.ring_steps.proofs.Moves.{reads_nothing, reads_packet}
use Rattle.ring_steps.proofs.laws.reads_in_place_change_nothing.Goals as goal

pub returns-clause-nothing : goal.returns-clause-nothing
returns-clause-nothing c = reads_nothing

pub returns-clause-packet : goal.returns-clause-packet
returns-clause-packet c = reads_packet
