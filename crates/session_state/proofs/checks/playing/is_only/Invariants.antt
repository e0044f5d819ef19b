use Rattle.std.proofs.Common.{◌≡◌, ◌<◌, ℕ, IsSome, length}
use Rattle.transport_header.specs.Tracks.{pair_at}
use Rattle.session_state.proofs.checks.playing.is_only.Given as goal

-- no track so far is set up but this one, and sixteen have a place
abbrev pub invariant-loop-other : goal.invariant-loop-other
invariant-loop-other l = record {
  alone : (k : ℕ) → k < l.other → IsSome (pair_at l.channels k) → k ≡ l.track;
  sixteen : 0 < l.other → length l.channels ≡ 16;
}
