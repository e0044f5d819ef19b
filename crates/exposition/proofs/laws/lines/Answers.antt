use Rattle.exposition.proofs.Lines.{number_line, seconds_line, help_line_is, type_line_is}
use Rattle.exposition.proofs.laws.lines.Goals as goal

pub returns : goal.returns
returns c = record { sample = number_line; seconds = seconds_line; help = help_line_is; kind = type_line_is }
