use Rattle.std.proofs.Common.{◌≡◌, ◌++◌}
use Rattle.std.specs.Option.{option_copied}
use Rattle.base_syntax.specs.Quotes.{rest_size}
use Rattle.source_sdp.specs.Lines.{lines_in}
use Rattle.source_sdp.proofs.Parts.{lines_left}
use Rattle.source_sdp.proofs.lines.read_lines.Given as goal

-- the lines so far and those of what is left are all of them
abbrev pub invariant-loop-rest : goal.invariant-loop-rest
invariant-loop-rest l = l.lines ++ lines_left (option_copied l.rest) ≡ lines_in l.fn.text

abbrev pub decreases-loop-rest : goal.decreases-loop-rest
decreases-loop-rest l = rest_size (option_copied l.rest)
