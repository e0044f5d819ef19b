-- What a sink that gathers keeps and has passed on.
use Rattle.std.specs.Prelude.{◌≡◌, ℕ, ◌-◌, List, ◌++◌, Option, length, min, take}
use Rattle.std.specs.Io.KnownBytes.{Appends, append_known}

-- the inner sink, the bytes that are kept, and how many can be
pub record Gathered (W : Type 0) : Type 0 where
  pub inner : W
  pub kept : List ℕ
  pub size : ℕ

-- what was written to it: what the inner sink has, and then the bytes that are kept
abbrev pub gathered : {W : Type 0} → (W → Option (List ℕ)) → Gathered W → Option (List ℕ)
gathered written g = append_known (written g.inner) g.kept

-- as many of these bytes as there is room for were kept after the others, and the inner sink was left alone
pub record Fills {W : Type 0} (old : Gathered W) (bytes : List ℕ) (count : ℕ) (new : Gathered W) : Type 0 where
  pub fits : count ≡ min (old.size - length old.kept) (length bytes)
  pub kept : new ≡ record old { kept = old.kept ++ take count bytes }

-- what was kept went through to the inner sink, and as many of these bytes as the buffer has room for are kept in its place
pub record PassesOn {W : Type 0} (written : W → Option (List ℕ)) (old : Gathered W) (bytes : List ℕ) (count : ℕ) (new : Gathered W) : Type 0 where
  pub through : Appends (written old.inner) (written new.inner) old.kept
  pub fits : count ≡ min old.size (length bytes)
  pub kept : new.kept ≡ take count bytes
