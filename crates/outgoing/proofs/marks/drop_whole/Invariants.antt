use Rattle.std.proofs.Common.{length}
use Rattle.outgoing.specs.Marks.{DropsFront}
use Rattle.outgoing.proofs.marks.drop_whole.Given as goal

abbrev pub invariant-loop-mark : goal.invariant-loop-mark
invariant-loop-mark l = DropsFront l.count l.taken l.fn.marks.items l.marks.items

abbrev pub decreases-loop-mark : goal.decreases-loop-mark
decreases-loop-mark l = length l.marks.items
