use Rattle.std.proofs.Common.{◌≡◌, ◌++◌, map}
use Rattle.std.specs.Option.{option_copied}
use Rattle.base_syntax.specs.Quotes.{rest_parts, rest_size}
use Rattle.transport_header.specs.Transport.{spec_of, specs_of}
use Rattle.transport_header.proofs.read.read_transport.Given as goal

-- the specs so far and those of what is left are all of them
abbrev pub invariant-loop-rest : goal.invariant-loop-rest
invariant-loop-rest l = l.specs.items ++ map spec_of (rest_parts 44 (option_copied l.rest)) ≡ specs_of l.text

abbrev pub decreases-loop-rest : goal.decreases-loop-rest
decreases-loop-rest l = rest_size (option_copied l.rest)
