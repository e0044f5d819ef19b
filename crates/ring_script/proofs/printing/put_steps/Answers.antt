use Rattle.std.proofs.Common.{arith}
use Rattle.ring_script.proofs.Printed.{step_put}
use Rattle.ring_script.proofs.printing.put_steps.Goals as goal

pub loop-index-preserved : goal.loop-index-preserved
loop-index-preserved c =
    step_put c.args.out.now.items c.loop-index.out.items c.put_step.new.out.items c.args.steps.now c.loop-index.index _ (omega arith) c.loop-index.invariant c.in_ok-put_step.ensures
