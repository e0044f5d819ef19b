-- Lines that an LF ends (RFC 2326, 4: CRLF ends a line, and a reader takes LF alone too).
use Rattle.std.specs.Prelude.{◌≡◌, ◌==◌, ℕ, Bool, true, false, if◌then◌else◌, List, [], ◌∷◌, ◌++◌}
use Rattle.base_syntax.specs.Cuts.{HasNone}

-- a line feed ends a line, and stands nowhere else in it
abbrev pub HasNoLf : List ℕ → Type 0
HasNoLf bytes = HasNone 10 bytes

-- the line as it came, with its LF
abbrev pub ended : List ℕ → List ℕ
ended line = line ++ 10 ∷ []

-- what a line says: one CR before its LF is dropped
abbrev pub said : List ℕ → List ℕ
said [] = []
said (b ∷ []) = if b == 13 then [] else b ∷ []
said (b ∷ c ∷ bs) = b ∷ said (c ∷ bs)

-- a line that isn't empty
abbrev pub has_bytes : List ℕ → Bool
has_bytes [] = false
has_bytes (b ∷ bs) = true

-- Bytes as a first line, of which this is said, and what follows its LF.
pub record IsFirstLine (bytes text rest : List ℕ) : Type 0 where
  pub line : List ℕ
  pub whole : bytes ≡ ended line ++ rest
  pub unbroken : HasNoLf line
  pub text_is : text ≡ said line
