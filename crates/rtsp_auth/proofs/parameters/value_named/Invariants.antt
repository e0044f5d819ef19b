use Rattle.std.proofs.Common.{◌≡◌, length}
use Rattle.rtsp_auth.specs.Parameters.{value_named}
use Rattle.rtsp_auth.proofs.parameters.value_named.Given as goal

-- no parameter so far has the name
abbrev pub invariant-loop-rest : goal.invariant-loop-rest
invariant-loop-rest l = value_named l.name l.rest ≡ value_named l.name l.items

abbrev pub decreases-loop-rest : goal.decreases-loop-rest
decreases-loop-rest l = length l.rest
