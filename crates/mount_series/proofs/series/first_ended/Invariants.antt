use Rattle.std.proofs.Common.{◌≡◌, ◌≤◌, take, slice_get}
use Rattle.std.specs.Prelude.{All, IfSome, IfNone, IsSomeAnd}
use Rattle.mount_series.specs.Series.{IsRecorded}
use Rattle.mount_series.proofs.series.first_ended.Given as goal

-- the first of those before the place whose mounts have ended is the one that was found, or a mount of each is recorded
abbrev pub invariant-loop-place : goal.invariant-loop-place
invariant-loop-place l =
    IfSome l.first (λ first. IsSomeAnd (slice_get l.named first) (λ sums. (sums.recorded ≡ 0) × (sums.ended ≡ l.earliest)))
    × IfSome l.first (λ first. All (λ other. other.recorded ≡ 0 → l.earliest ≤ other.ended) (take l.place l.named))
    × IfNone l.first (All IsRecorded (take l.place l.named))
