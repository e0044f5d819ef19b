use Rattle.std.proofs.Common.{◌≡◌, ◌||◌, Some, sym, ap, rules, ◌∙◌}
use Rattle.std.specs.List.{list_any}
use Rattle.std.specs.Option.{option_copied}
use Rattle.session_state.specs.Fields.{has_sdp}
use Rattle.session_state.proofs.CheckedFields.{first_or_others, parts_left}
use Rattle.session_state.proofs.checks.fields.accepts_sdp.Goals as goal

pub returns-then-has_sdp : goal.returns-then-has_sdp
returns-then-has_sdp c =
    let left : option_copied c.loop-rest.rest ≡ Some c.in-Some.ranges.now = search rules in
    let step = first_or_others (option_copied c.loop-rest.rest) c.in-Some.ranges.now c.cut.result.0.now (option_copied c.cut.result.1) left c.cut.ensures.before c.cut.ensures.behind in
    sym (step ∙ ap (λ b. b || list_any has_sdp (parts_left (option_copied c.cut.result.1))) (sym c.has_sdp.ensures ∙ c.if-has_sdp.true)) ∙ c.loop-rest.invariant

pub loop-rest-preserved : goal.loop-rest-preserved
loop-rest-preserved c =
    let left : option_copied c.loop-rest.rest ≡ Some c.in-Some.ranges.now = search rules in
    let step = first_or_others (option_copied c.loop-rest.rest) c.in-Some.ranges.now c.cut.result.0.now (option_copied c.cut.result.1) left c.cut.ensures.before c.cut.ensures.behind in
    sym (step ∙ ap (λ b. b || list_any has_sdp (parts_left (option_copied c.cut.result.1))) (sym c.has_sdp.ensures ∙ c.if-has_sdp.false)) ∙ c.loop-rest.invariant
