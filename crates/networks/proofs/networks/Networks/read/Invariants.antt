use Rattle.std.specs.Option.{option_copied}
use Rattle.base_syntax.specs.Quotes.{rest_size}
use Rattle.networks.proofs.Parts.{HasRead}
use Rattle.networks.proofs.networks.Networks.read.Given as goal

-- the networks so far are those of the first parts, and the others are left
abbrev pub invariant-loop-rest : goal.invariant-loop-rest
invariant-loop-rest l = HasRead l.fn.text l.networks.items (option_copied l.rest)

abbrev pub decreases-loop-rest : goal.decreases-loop-rest
decreases-loop-rest l = rest_size (option_copied l.rest)
