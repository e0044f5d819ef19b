use Rattle.ring_script.proofs.LineEnds.{line_ended, line_unended}
use Rattle.ring_script.proofs.first_line.first_line.Goals as goal

pub returns-in-Some-clause-line : goal.returns-in-Some-clause-line
returns-in-Some-clause-line c =
    let after = c.cut.ensures.behind in
    line_ended c.args.text.now c.cut.result.0.now c.in-Some.rest.now c.cut.ensures.before (rw c.in-Some.is at after)

pub returns-in-None-clause-line : goal.returns-in-None-clause-line
returns-in-None-clause-line c =
    let after = c.cut.ensures.behind in
    line_unended c.args.text.now c.cut.result.0.now c.as_slice.result.now c.requires c.cut.ensures.before (rw c.in-None.is at after) (c.as_slice.ensures)
