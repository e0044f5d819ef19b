use Rattle.std.specs.Option.{option_copied}
use Rattle.ring_script.proofs.Items.{SoFar, left_of}
use Rattle.ring_script.proofs.item.schedule.Given as goal

abbrev pub invariant-loop-rest : goal.invariant-loop-rest
invariant-loop-rest l = SoFar l.fn.text (option_copied l.rest) l.schedule

abbrev pub decreases-loop-rest : goal.decreases-loop-rest
decreases-loop-rest l = left_of (option_copied l.rest)
