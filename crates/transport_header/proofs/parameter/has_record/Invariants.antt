use Rattle.std.proofs.Common.{◌≡◌}
use Rattle.std.specs.List.{list_any}
use Rattle.std.specs.Option.{option_copied}
use Rattle.base_syntax.specs.Quotes.{parts, rest_parts, rest_size}
use Rattle.transport_header.specs.Transport.{asks_record}
use Rattle.transport_header.proofs.parameter.has_record.Given as goal

-- no word so far asks for recording
abbrev pub invariant-loop-rest : goal.invariant-loop-rest
invariant-loop-rest l = list_any asks_record (rest_parts 44 (option_copied l.rest)) ≡ list_any asks_record (parts 44 l.text)

abbrev pub decreases-loop-rest : goal.decreases-loop-rest
decreases-loop-rest l = rest_size (option_copied l.rest)
