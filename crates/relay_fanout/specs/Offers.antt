-- The offers that no mount has used yet.
use Rattle.std.specs.Prelude.{ℕ, ◌+◌, ◌≤◌, Option, None, Some, IsNone}

-- the model of the unused offers: the one that is kept, and how many callers have one or make one
pub record Unused (T : Type 0) : Type 0 where
  pub kept : Option T
  pub taken : ℕ

-- one is kept, or none
abbrev pub count_of : {T : Type 0} → Option T → ℕ
count_of None = 0
count_of (Some kept) = 1

-- how many offers there are outside a mount, the kept one among them
abbrev pub unused : {T : Type 0} → Unused T → ℕ
unused offers = offers.taken + count_of offers.kept

-- none is kept, and four are unused: an ANNOUNCE has to wait
abbrev pub AreAllTaken : {T : Type 0} → Unused T → Type 0
AreAllTaken offers = IsNone offers.kept × (4 ≤ offers.taken)
