use Rattle.std.proofs.Common.{length}
use Rattle.ring_script.proofs.Reading.{SoFar}
use Rattle.ring_script.proofs.plan_reading.read_plan.Given as goal

abbrev pub invariant-loop-rest : goal.invariant-loop-rest
invariant-loop-rest l = SoFar l.text l.rest l.count l.draft

abbrev pub decreases-loop-rest : goal.decreases-loop-rest
decreases-loop-rest l = length l.rest
