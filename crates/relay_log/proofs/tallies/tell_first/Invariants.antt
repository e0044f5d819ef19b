use Rattle.std.proofs.Common.{◌≡◌, take}
use Rattle.std.specs.Prelude.{All}
use Rattle.relay_log.specs.Tallies.{IsDue}
use Rattle.relay_log.proofs.tallies.tell_first.Given as goal

-- none before is due, and all are as they were
abbrev pub invariant-loop-place : goal.invariant-loop-place
invariant-loop-place l = record {
  same : l.tallies ≡ l.initial.tallies;
  none_due : All (λ tally. IsDue tally l.now → ⊥) (take l.place l.initial.tallies);
}
