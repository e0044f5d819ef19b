use Rattle.std.proofs.Common.{ℕ, ◌<◌}
use Rattle.mounts.specs.Names.{HasTrackAt}
use Rattle.mounts.proofs.names.ends_in_track.Given as goal

abbrev pub invariant-loop-place : goal.invariant-loop-place
invariant-loop-place l = (k : ℕ) → k < l.place → HasTrackAt l.path k → ⊥
