use Rattle.base_syntax.proofs.AreParts.{are_parts, joined, only}
use Rattle.base_syntax.proofs.laws.cutting_unquoted.Goals as goal

pub returns : goal.returns
returns c = record { uncut = are_parts; joined = joined; only = only }
