use Rattle.transport_header.proofs.First.{NoneBelow}
use Rattle.transport_header.proofs.chosen.first_acceptable.Given as goal

-- no spec so far is acceptable
abbrev pub invariant-loop-spec : goal.invariant-loop-spec
invariant-loop-spec l = NoneBelow l.specs l.spec-index
