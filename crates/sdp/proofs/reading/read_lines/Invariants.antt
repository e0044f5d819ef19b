use Rattle.std.proofs.Common.{length}
use Rattle.sdp.proofs.SoFar.{SoFar}
use Rattle.sdp.proofs.reading.read_lines.Given as goal

abbrev pub invariant-loop-line : goal.invariant-loop-line
invariant-loop-line l = SoFar l.bytes l.rest l.sections

abbrev pub decreases-loop-line : goal.decreases-loop-line
decreases-loop-line l = length l.rest
