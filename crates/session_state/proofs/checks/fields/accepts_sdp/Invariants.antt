use Rattle.std.proofs.Common.{◌≡◌}
use Rattle.std.specs.List.{list_any}
use Rattle.std.specs.Option.{option_copied}
use Rattle.base_syntax.specs.Quotes.{rest_size}
use Rattle.session_state.specs.Fields.{accepts_sdp, has_sdp}
use Rattle.session_state.proofs.CheckedFields.{parts_left}
use Rattle.session_state.proofs.checks.fields.accepts_sdp.Given as goal

-- no media range so far has descriptions in it
abbrev pub invariant-loop-rest : goal.invariant-loop-rest
invariant-loop-rest l = list_any has_sdp (parts_left (option_copied l.rest)) ≡ accepts_sdp l.text

abbrev pub decreases-loop-rest : goal.decreases-loop-rest
decreases-loop-rest l = rest_size (option_copied l.rest)
