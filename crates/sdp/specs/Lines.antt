-- The lines of a description (RFC 4566, 5: each is ended by CRLF, and a reader takes LF alone too).
use Rattle.std.specs.Prelude.{◌≡◌, ℕ, List, [], ◌∷◌, ◌++◌, map, filter}
use Rattle.std.specs.List.{AllByRecursion, flat_map}
use Rattle.base_syntax.specs.Lines.{HasNoLf, ended, said, has_bytes}

-- The lines of a text: those that an LF ends, each without the CR before it, and the bytes after the last LF as
-- they are. Empty ones don't count.
pub record AreLines (text : List ℕ) (lines : List (List ℕ)) : Type 0 where
  pub whole_lines : List (List ℕ)
  pub last : List ℕ
  pub whole : text ≡ flat_map ended whole_lines ++ last
  pub unbroken : AllByRecursion HasNoLf whole_lines
  pub last_unbroken : HasNoLf last
  pub lines_are : lines ≡ filter has_bytes (map said whole_lines ++ last ∷ [])
