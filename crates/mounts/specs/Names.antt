-- The names of mounts, and where a path goes on after one (RFC 2326, 3.2: abs_path).
use Rattle.std.specs.Prelude.{◌≡◌, ℕ, ◌+◌, drop, ◌<◌, ◌≤◌, List, ◌∷◌, ◌++◌, length, slice_index, codes, Option, None, Some}
use Rattle.std.specs.Str.Parse.{IsNumeral}
use Rattle.mounts.specs.Uri.{slash}

-- 1 to 128 bytes
pub record IsName (name : List ℕ) : Type 0 where
  pub some : 0 < length name
  pub most : length name ≤ 128

-- The path is this name, or goes on after it with a slash and a rest. No rest and an empty rest are different.
abbrev pub GoesOn : (path name : List ℕ) → (rest : Option (List ℕ)) → Type 0
GoesOn path name None = path ≡ name
GoesOn path name (Some rest) = path ≡ name ++ slash ∷ rest

-- a number in decimal digits, the first of which is 0 only where it is the only one
pub record IsShortNumeral (digits : List ℕ) : Type 0 where
  pub numeral : IsNumeral 10 digits
  pub short : slice_index digits 0 ≡ 48 → length digits ≡ 1

-- A slash stands at a place of a path, and after it `trackID=` and a number.
pub record HasTrackAt (path : List ℕ) (place : ℕ) : Type 0 where
  pub cut : slice_index path place ≡ slash
  pub digits : List ℕ
  pub numeral : IsShortNumeral digits
  pub ends : drop (place + 1) path ≡ codes "trackID=" ++ digits

-- The path ends as the URI of a track does that players are given: in a slash, `trackID=` and a number, however many
-- digits that has.
pub record EndsInTrack (path : List ℕ) : Type 0 where
  pub front : List ℕ
  pub digits : List ℕ
  pub numeral : IsShortNumeral digits
  pub ends : path ≡ front ++ slash ∷ (codes "trackID=" ++ digits)
