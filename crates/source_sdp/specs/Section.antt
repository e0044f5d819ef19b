-- The media sections of a description (RFC 4566, 5.14).
use Rattle.std.specs.Prelude.{◌≡◌, ℕ, true, if◌then◌else◌, List, [], ◌∷◌}
use Rattle.sdp.specs.Fields.{is_media}
use Rattle.sdp.specs.Sections.{HasNoMedia}

-- an `m=` line, and the lines after it up to the next one
pub record Section : Type 0 where
  pub head : List ℕ
  pub lines : List (List ℕ)

-- the lines before the first `m=` line
abbrev pub before_media : List (List ℕ) → List (List ℕ)
before_media [] = []
before_media (line ∷ lines) = if is_media line then [] else line ∷ before_media lines

-- a section for each `m=` line, in order
abbrev pub sections_of : List (List ℕ) → List Section
sections_of [] = []
sections_of (line ∷ lines) =
    if is_media line then record { head = line; lines = before_media lines } ∷ sections_of lines
    else sections_of lines

-- it begins with an `m=` line, and has no other
abbrev pub IsCut : Section → Type 0
IsCut section = (is_media section.head ≡ true) × HasNoMedia section.lines

-- all lines of a section
abbrev pub whole_section : Section → List (List ℕ)
whole_section section = section.head ∷ section.lines
