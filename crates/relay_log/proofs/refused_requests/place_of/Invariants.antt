use Rattle.std.proofs.Common.{take}
use Rattle.std.specs.Prelude.{All}
use Rattle.relay_log.specs.Refusals.{IsCountOf}
use Rattle.relay_log.proofs.refused_requests.place_of.Given as goal

-- none before the place is that count
abbrev pub invariant-loop-place : goal.invariant-loop-place
invariant-loop-place l = All (λ entry. IsCountOf l.subject l.status entry → ⊥) (take l.place l.entries)
