use Rattle.std.proofs.Common.{ap, sym, ◌∙◌}
use Rattle.std.specs.Option.{option_copied}
use Rattle.base_syntax.proofs.LineEnds.{line_ended, no_line}
use Rattle.base_syntax.proofs.lines.first_line.Goals as goal

pub returns-clause-some : goal.returns-clause-some
returns-clause-some c =
    line_ended c.args.bytes.now c.cut.result.0.now c.without_cr.result.now c.in_ok-rest.rest.now c.cut.ensures.before (sym (ap option_copied c.in_ok-rest.was) ∙ c.cut.ensures.behind) c.without_cr.ensures

pub returns-in_err-rest-clause-none : goal.returns-in_err-rest-clause-none
returns-in_err-rest-clause-none c = rw c.from_residual.ensures (no_line c.args.bytes.now (sym (ap option_copied c.in_err-rest.was) ∙ c.cut.ensures.behind))
