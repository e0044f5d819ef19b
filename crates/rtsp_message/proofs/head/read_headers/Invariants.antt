use Rattle.std.proofs.Common.{length}
use Rattle.rtsp_message.proofs.Blocks.{FieldsSoFar}
use Rattle.rtsp_message.proofs.head.read_headers.Given as goal

abbrev pub invariant-loop-line : goal.invariant-loop-line
invariant-loop-line l = FieldsSoFar l.text l.headers l.rest

abbrev pub decreases-loop-line : goal.decreases-loop-line
decreases-loop-line l = length l.rest
