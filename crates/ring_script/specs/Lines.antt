-- The lines of the input of the command `steps`.
use Rattle.std.specs.Prelude.{◌≡◌, ◌⊎◌, ℕ, true, List, [], ◌∷◌, ◌++◌}
use Rattle.base_syntax.specs.Lines.{HasNoLf, has_bytes}

-- The first line of a text, and the text after it. An LF ends it, or the text does: what follows the last LF is a line
-- where it has bytes. A CR is a byte of it like any other.
pub record IsFirstLine (text line rest : List ℕ) : Type 0 where
  pub unbroken : HasNoLf line
  pub whole : (text ≡ line ++ 10 ∷ rest) ⊎ ((text ≡ line) × (rest ≡ []) × (has_bytes line ≡ true))

-- the lines of a text, the empty ones too
abbrev pub AreLines : List ℕ → List (List ℕ) → Type 0
AreLines text [] = text ≡ []
AreLines text (line ∷ lines) = (rest : List ℕ) × IsFirstLine text line rest × AreLines rest lines
