-- A queue whose items wait until they are taken.
use Rattle.std.specs.Prelude.{ℕ, ◌+◌, List, [], ◌∷◌}
use Rattle.relay_log.specs.declared.backlog.Waiting.{Waiting}

-- the model of a backlog: the items that wait, the oldest first, and how many found no room after the last of them
pub record Backed (T : Type 0) : Type 0 where
  pub waiting : List (Waiting T)
  pub missed : ℕ

-- how many items are lost if those that wait are dropped: each, and those that found no room before it
abbrev pub lost_with : {T : Type 0} → List (Waiting T) → ℕ
lost_with [] = 0
lost_with (line ∷ lines) = line.missed + 1 + lost_with lines
