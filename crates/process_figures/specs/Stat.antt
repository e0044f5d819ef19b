-- The line of /proc/PID/stat (proc_pid_stat(5)).
use Rattle.std.specs.Prelude.{◌≡◌, ℕ, ◌-◌, ◌==◌, if◌then◌else◌, List, [], ◌∷◌, ◌++◌, Option, None, Some, slice_get}
use Rattle.std.specs.List.{slice_split}
use Rattle.std.specs.Option.{option_and_then, option_or}
use Rattle.base_syntax.specs.Cuts.{HasNone}
use Rattle.process_figures.specs.Numbers.{number_of}

-- what is behind the last such byte, if the text has one
abbrev pub behind_last : (byte : ℕ) → List ℕ → Option (List ℕ)
behind_last byte [] = None
behind_last byte (b ∷ bs) = option_or (behind_last byte bs) (if b == byte then Some bs else None)

-- The text is a front, such a byte and the rest, and the rest has no such byte.
pub record IsBehindLast (byte : ℕ) (text rest : List ℕ) : Type 0 where
  pub front : List ℕ
  pub whole : text ≡ front ++ byte ∷ rest
  pub last : HasNone byte rest

-- what is before the first space, between each two, and behind the last one
abbrev pub between_spaces : List ℕ → List (List ℕ)
between_spaces text = slice_split (λ b. b == 32) text

-- A field of the line by its number, counted from 1, and 3 or more. The second field is the name of the program in parentheses, which
-- can have spaces and parentheses itself. So the third field is behind the last `)` and a space, and each later one is a space behind
-- the one before.
abbrev pub stat_field : (number : ℕ) → (line : List ℕ) → Option (List ℕ)
stat_field number line = option_and_then (λ behind. slice_get (between_spaces behind) (number - 2)) (behind_last 41 line)

-- the number that a field spells
abbrev pub stat_number : (number : ℕ) → (line : List ℕ) → Option ℕ
stat_number number line = option_and_then number_of (stat_field number line)
