use Rattle.ring_steps.proofs.Running.{ran_keeps}
use Rattle.ring_steps.proofs.Opening.{empty_keeps}
use Rattle.ring_steps.proofs.laws.runs_keep_the_invariant.Goals as goal

pub returns : goal.returns
returns c = λ script keep seats turns end low ran. ran_keeps script _ turns end ran (empty_keeps keep seats low)
