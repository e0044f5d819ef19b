use Rattle.std.proofs.Common.{◌≡◌, ◌++◌, take}
use Rattle.ring_script.specs.TraceText.{step_lines}
use Rattle.ring_script.proofs.printing.put_steps.Given as goal

abbrev pub invariant-loop-index : goal.invariant-loop-index
invariant-loop-index l = l.out.items ≡ l.fn.out.items ++ step_lines 0 (take l.index l.steps)
