use Rattle.std.proofs.Common.{◌≡◌}
use Rattle.std.specs.List.{list_any}
use Rattle.std.specs.Option.{option_copied}
use Rattle.base_syntax.specs.Quotes.{parts, rest_parts, rest_size}
use Rattle.rtsp_client.specs.PublicFields.{is_method}
use Rattle.rtsp_client.proofs.public.has_method.Given as goal

-- no method so far is it
abbrev pub invariant-loop-rest : goal.invariant-loop-rest
invariant-loop-rest l = list_any (is_method l.method) (rest_parts 44 (option_copied l.rest)) ≡ list_any (is_method l.method) (parts 44 l.public)

abbrev pub decreases-loop-rest : goal.decreases-loop-rest
decreases-loop-rest l = rest_size (option_copied l.rest)
