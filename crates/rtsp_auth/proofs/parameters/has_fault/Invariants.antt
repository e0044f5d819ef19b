use Rattle.std.proofs.Common.{◌≡◌, length}
use Rattle.rtsp_auth.specs.Parameters.{has_fault}
use Rattle.rtsp_auth.proofs.parameters.has_fault.Given as goal

-- each item so far is a parameter
abbrev pub invariant-loop-rest : goal.invariant-loop-rest
invariant-loop-rest l = has_fault l.rest ≡ has_fault l.items

abbrev pub decreases-loop-rest : goal.decreases-loop-rest
decreases-loop-rest l = length l.rest
