use Rattle.std.proofs.Common.{◌≡◌, ◌++◌}
use Rattle.std.specs.List.{flat_map}
use Rattle.std.specs.Option.{option_copied}
use Rattle.base_syntax.specs.Quotes.{rest_size}
use Rattle.rtsp_auth.specs.Items.{items_in}
use Rattle.rtsp_auth.specs.Pieces.{pieces, rest_pieces}
use Rattle.rtsp_auth.proofs.items.push_field.Given as goal

-- the items so far and those of what is left are all of them
abbrev pub invariant-loop-rest : goal.invariant-loop-rest
invariant-loop-rest l = l.items.items ++ flat_map items_in (rest_pieces (option_copied l.rest)) ≡ l.fn.items.items ++ flat_map items_in (pieces l.field)

abbrev pub decreases-loop-rest : goal.decreases-loop-rest
decreases-loop-rest l = rest_size (option_copied l.rest)
