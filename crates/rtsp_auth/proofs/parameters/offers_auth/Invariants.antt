use Rattle.std.proofs.Common.{◌≡◌}
use Rattle.std.specs.List.{list_any}
use Rattle.std.specs.Option.{option_copied}
use Rattle.base_syntax.specs.Quotes.{parts, rest_parts, rest_size}
use Rattle.rtsp_auth.specs.Parameters.{is_auth}
use Rattle.rtsp_auth.proofs.parameters.offers_auth.Given as goal

-- no word so far is `auth`
abbrev pub invariant-loop-rest : goal.invariant-loop-rest
invariant-loop-rest l = list_any is_auth (rest_parts 44 (option_copied l.rest)) ≡ list_any is_auth (parts 44 l.words)

abbrev pub decreases-loop-rest : goal.decreases-loop-rest
decreases-loop-rest l = rest_size (option_copied l.rest)
