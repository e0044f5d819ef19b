-- How many tracks an accepted description has.
use Rattle.std.specs.Prelude.{ℕ, ◌+◌, nat_eq, List, [], ◌∷◌, if◌then◌else◌}
use Rattle.std.specs.List.{starts_with}

-- how many lines of a text begin with "m=", of which none is the first line (RFC 4566, 5)
abbrev pub media_lines : List ℕ → ℕ
media_lines [] = 0
media_lines (b ∷ text) = (if starts_with nat_eq (b ∷ text) (10 ∷ 109 ∷ 61 ∷ []) then 1 else 0) + media_lines text
