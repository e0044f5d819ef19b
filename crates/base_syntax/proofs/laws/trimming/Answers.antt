use Rattle.base_syntax.proofs.Trims.{is_core, only_core}
use Rattle.base_syntax.proofs.laws.trimming.Goals as goal

pub returns : goal.returns
returns c = record { core = is_core; only = only_core }
