use Rattle.base_syntax.proofs.Digits.{number_read, number_only}
use Rattle.base_syntax.proofs.laws.numbers.Goals as goal

pub returns : goal.returns
returns c = record { reads = number_read; only = number_only }
