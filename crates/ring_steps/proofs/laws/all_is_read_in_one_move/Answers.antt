use Rattle.ring_steps.proofs.Moves.{read_all_keeps, read_all_steps}
use Rattle.ring_steps.proofs.laws.all_is_read_in_one_move.Goals as goal

pub returns-clause-kept : goal.returns-clause-kept
returns-clause-kept c = read_all_keeps

pub returns-clause-steps : goal.returns-clause-steps
returns-clause-steps c = read_all_steps
