use Rattle.process_figures.proofs.Closing.{is_behind, only_behind}
use Rattle.process_figures.proofs.laws.closing.Goals as goal

pub returns-clause-behind : goal.returns-clause-behind
returns-clause-behind c = is_behind

pub returns-clause-only : goal.returns-clause-only
returns-clause-only c = only_behind
