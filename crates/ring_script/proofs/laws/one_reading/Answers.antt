use Rattle.ring_script.proofs.OnePlan.{one_plan, one_bad_line, plan_or_bad_line}
use Rattle.ring_script.proofs.laws.one_reading.Goals as goal

pub returns-clause-plan : goal.returns-clause-plan
returns-clause-plan c = one_plan

pub returns-clause-bad_line : goal.returns-clause-bad_line
returns-clause-bad_line c = one_bad_line

pub returns-clause-apart : goal.returns-clause-apart
returns-clause-apart c = plan_or_bad_line
