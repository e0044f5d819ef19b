-- A store of bytes that counts the looks at them.
use Rattle.std.specs.Prelude.{◌≡◌, ◌+◌, ◌-◌, ◌^◌, ◌<◌, ◌≤◌, ℕ, min, List, ◌∷◌, Option, None, Some, length, take, drop}
use Rattle.base_syntax.specs.Lines.{HasNoLf}

-- The bytes that it holds, how many looks at them were made, and for how many bytes it holds memory.
pub record StoreState : Type 0 where
  pub bytes : List ℕ
  pub looked : ℕ
  pub room : ℕ

-- a count after so many more; it stays at 2^64 - 1 once it is there
abbrev pub counted : ℕ → ℕ → ℕ
counted count more = min (count + more) (2 ^ 64 - 1)

-- a store after so many looks more
abbrev pub looked_more : StoreState → ℕ → StoreState
looked_more store more = record store { looked = counted store.looked more }

-- The first LF from this place on stands here.
pub record IsFirstLf (bytes : List ℕ) (from place : ℕ) : Type 0 where
  pub behind : from ≤ place
  pub within : place < length bytes
  pub none_before : HasNoLf (take (place - from) (drop from bytes))
  pub stands : drop place bytes ≡ 10 ∷ drop (place + 1) bytes

-- how many bytes were passed over from a place up to the LF, itself included, or up to the end where there is none
abbrev pub passed : List ℕ → ℕ → Option ℕ → ℕ
passed bytes from (Some place) = place + 1 - from
passed bytes from None = length bytes - from

-- the bytes from one place up to another
abbrev pub between : List ℕ → ℕ → ℕ → List ℕ
between bytes from to = take (to - from) (drop from bytes)

-- A store changed by looks alone. With so many before and so many after, at most the difference was made.
pub record LooksOnly (old new : StoreState) (before after : ℕ) : Type 0 where
  pub bytes : new.bytes ≡ old.bytes
  pub room : new.room ≡ old.room
  pub at_most : new.looked + before ≤ old.looked + after
  pub grows : old.looked < 2 ^ 64 → old.looked ≤ new.looked
  pub fits : old.looked < 2 ^ 64 → new.looked < 2 ^ 64
