-- The lines of a file of /proc, by the names that they begin with.
use Rattle.std.specs.Prelude.{ℕ, ◌==◌, if◌then◌else◌, List, [], ◌∷◌, Option, None, Some, length, take, drop}
use Rattle.std.specs.List.{slice_split}
use Rattle.std.specs.Option.{option_or}
use Rattle.std.specs.Str.{bytes_eq}

abbrev pub lines : List ℕ → List (List ℕ)
lines text = slice_split (λ b. b == 10) text

-- what is behind this name in a line that begins with it
abbrev pub behind_name : (name line : List ℕ) → Option (List ℕ)
behind_name name line = if bytes_eq (take (length name) line) name then Some (drop (length name) line) else None

-- what is behind the name in the first of these lines that begins with it
abbrev pub first_behind : (name : List ℕ) → List (List ℕ) → Option (List ℕ)
first_behind name [] = None
first_behind name (line ∷ others) = option_or (behind_name name line) (first_behind name others)

-- the same in a text
abbrev pub behind_named : (name text : List ℕ) → Option (List ℕ)
behind_named name text = first_behind name (lines text)
