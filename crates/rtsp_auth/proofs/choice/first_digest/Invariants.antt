use Rattle.std.proofs.Common.{◌≡◌, length}
use Rattle.rtsp_auth.specs.Choices.{first_digest}
use Rattle.rtsp_auth.proofs.choice.first_digest.Given as goal

-- no challenge of Digest so far can be answered
abbrev pub invariant-loop-rest : goal.invariant-loop-rest
invariant-loop-rest l = first_digest l.rest ≡ first_digest l.items

abbrev pub decreases-loop-rest : goal.decreases-loop-rest
decreases-loop-rest l = length l.rest
