use Rattle.std.proofs.Common.{take}
use Rattle.std.specs.Prelude.{All}
use Rattle.relay_log.specs.Refusals.{IsDueCount}
use Rattle.relay_log.proofs.refused_requests.place_due.Given as goal

-- none before the place is due
abbrev pub invariant-loop-place : goal.invariant-loop-place
invariant-loop-place l = All (λ entry. IsDueCount l.now entry → ⊥) (take l.place l.entries)
