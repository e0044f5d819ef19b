use Rattle.std.proofs.Common.{◌≡◌, map}
use Rattle.std.specs.Option.{option_copied}
use Rattle.base_syntax.specs.Blanks.{trimmed}
use Rattle.base_syntax.specs.Quotes.{rest_parts, rest_size}
use Rattle.transport_header.specs.Transport.{value_named}
use Rattle.transport_header.proofs.parameter.parameter.Given as goal

-- no parameter so far has the name
abbrev pub invariant-loop-rest : goal.invariant-loop-rest
invariant-loop-rest l = value_named l.name (map trimmed (rest_parts 59 (option_copied l.rest))) ≡ value_named l.name (map trimmed (rest_parts 59 (option_copied l.fn.text)))

abbrev pub decreases-loop-rest : goal.decreases-loop-rest
decreases-loop-rest l = rest_size (option_copied l.rest)
