use Rattle.std.proofs.Common.{◌≡◌, length}
use Rattle.rtsp_auth.specs.Choices.{has_basic}
use Rattle.rtsp_auth.proofs.choice.has_basic.Given as goal

-- no challenge of Basic so far can be answered
abbrev pub invariant-loop-rest : goal.invariant-loop-rest
invariant-loop-rest l = has_basic l.rest ≡ has_basic l.items

abbrev pub decreases-loop-rest : goal.decreases-loop-rest
decreases-loop-rest l = length l.rest
