use Rattle.base_syntax.proofs.Cuts.{is_cut, only_front, only_behind}
use Rattle.base_syntax.proofs.laws.cutting.Goals as goal

pub returns : goal.returns
returns c = record { cut = is_cut; front = only_front; behind = only_behind }
