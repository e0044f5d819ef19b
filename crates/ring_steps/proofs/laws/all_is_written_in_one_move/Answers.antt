use Rattle.ring_steps.proofs.Moves.{write_all_keeps, write_all_steps}
use Rattle.ring_steps.proofs.laws.all_is_written_in_one_move.Goals as goal

pub returns-clause-kept : goal.returns-clause-kept
returns-clause-kept c = write_all_keeps

pub returns-clause-steps : goal.returns-clause-steps
returns-clause-steps c = write_all_steps
