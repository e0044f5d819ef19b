use Rattle.std.proofs.Common.{◌≡◌, length, arith}
use Rattle.ring_script.proofs.Reading.{bad_line, missing_line, whole_read, no_bytes}
use Rattle.ring_script.proofs.plan_reading.read_plan.Goals as goal

pub returns-in_default : goal.returns-in_default
returns-in_default c =
    let stuck = c.in_ok-next.ensures.stuck in
    bad_line c.first_line.result.0.now c.first_line.result.1.now c.loop-rest.invariant c.first_line.ensures.line (rw c.in_default.is at stuck)

pub returns-in-Whole : goal.returns-in-Whole
returns-in-Whole c =
    let none : length c.loop-rest.rest.now ≡ 0 = grind arith in
    whole_read c.loop-rest.draft c.in-Whole.plan c.loop-rest.invariant (no_bytes c.loop-rest.rest.now none) c.in-Whole.is

pub returns : goal.returns
returns c =
    let none : length c.loop-rest.rest.now ≡ 0 = grind arith in
    missing_line c.loop-rest.invariant (no_bytes c.loop-rest.rest.now none) c.in_default-draft.not-Whole
