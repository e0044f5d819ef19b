-- Blanks at the ends of a text (RFC 2326, 15.1: white space within a line).
use Rattle.std.specs.Prelude.{◌≡◌, ℕ, ◌-◌, ◌<◌, ◌==◌, ◌||◌, Bool, false, List, ◌++◌, length, take, drop, slice_index}
use Rattle.std.specs.List.{AllPass, prefix_len, suffix_len}

-- a space or a tab
abbrev pub is_blank : ℕ → Bool
is_blank b = b == 32 || b == 9

-- the text without the blanks at its start, without those at its end, and without both
abbrev pub without_leading_blanks : List ℕ → List ℕ
without_leading_blanks text = drop (prefix_len is_blank text) text

abbrev pub without_trailing_blanks : List ℕ → List ℕ
without_trailing_blanks text = take (length text - suffix_len is_blank text) text

abbrev pub trimmed : List ℕ → List ℕ
trimmed text = without_trailing_blanks (without_leading_blanks text)

-- neither end of the text, where it has any, is a blank
abbrev pub HasBareEnds : List ℕ → Type 0
HasBareEnds text = 0 < length text → (is_blank (slice_index text 0) ≡ false) × (is_blank (slice_index text (length text - 1)) ≡ false)

-- The text is this core, with nothing but blanks before and after it.
pub record IsTrimOf (text core : List ℕ) : Type 0 where
  pub front : List ℕ
  pub back : List ℕ
  pub whole : text ≡ front ++ (core ++ back)
  pub front_blank : AllPass is_blank front
  pub back_blank : AllPass is_blank back
  pub bare : HasBareEnds core
