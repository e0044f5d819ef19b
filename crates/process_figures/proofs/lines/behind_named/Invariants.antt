use Rattle.std.proofs.Common.{◌≡◌}
use Rattle.std.specs.Option.{option_copied}
use Rattle.base_syntax.specs.Quotes.{rest_size}
use Rattle.process_figures.specs.Lines.{behind_named, first_behind}
use Rattle.process_figures.proofs.Parts.{parts_left}
use Rattle.process_figures.proofs.lines.behind_named.Given as goal

-- no line so far begins with the name
abbrev pub invariant-loop-rest : goal.invariant-loop-rest
invariant-loop-rest l = first_behind l.name (parts_left 10 (option_copied l.rest)) ≡ behind_named l.name l.fn.text

abbrev pub decreases-loop-rest : goal.decreases-loop-rest
decreases-loop-rest l = rest_size (option_copied l.rest)
