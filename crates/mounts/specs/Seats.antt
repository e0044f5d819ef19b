-- What is kept of a mount's seats.
use Rattle.std.specs.Prelude.{◌≡◌, ℕ, ◌≤◌, Bool, false, not, List, length, slice_get, count_by, Some}
use Rattle.std.specs.List.{AllByRecursion}
use Rattle.mounts.specs.Different.{AreDifferent}

-- The list has each seat that is free, once, and there is room for all seats in it.
pub record AreFree (out : List Bool) (free : List ℕ) (room : ℕ) : Type 0 where
  pub each : AllByRecursion (λ seat. slice_get out seat ≡ Some false) free
  pub once : AreDifferent free
  pub all : count_by not out ≡ length free
  pub few : length out ≤ 1024
  pub room_for_all : length out ≤ room
