-- The lines of a text, one after another.
use Rattle.std.proofs.Common.{◌≡◌, ℕ, Option, None, Some, List, [], ◌∷◌, ◌++◌, Bool, true, false, refl, ap, sym, ◌∙◌, inl, inr}
use Rattle.std.specs.List.{before_first, onto_first, slice_split}
use Rattle.std.proofs.lemmas.List.Splits.{slice_split_first, slice_split-cons_no}
use Rattle.base_syntax.specs.Cuts.{HasNone, behind_first}
use Rattle.base_syntax.proofs.Cuts.{found_or_missing}
use Rattle.source_sdp.specs.Lines.{is_lf, without_padding, is_kept_line, kept_lines, lines_in}

-- the lines of what is left of a text, if something is
abbrev pub lines_left : Option (List ℕ) → List (List ℕ)
lines_left None = []
lines_left (Some text) = lines_in text

pub one_line : (text : List ℕ) → HasNone 10 text → slice_split is_lf text ≡ text ∷ []
one_line [] h = refl
one_line (b ∷ bs) h = slice_split-cons_no is_lf b bs h.0 ∙ ap (onto_first b) (one_line bs h.1)

abbrev parts_left : Option (List ℕ) → List (List ℕ)
parts_left None = []
parts_left (Some text) = slice_split is_lf text

-- the first line ends at the first LF
first_part : (text : List ℕ) → slice_split is_lf text ≡ before_first is_lf text ∷ parts_left (behind_first 10 text)
first_part text = elim (found_or_missing 10 text) [
  | inl r ↦ rw r.found (slice_split_first is_lf text 0 r.below)
  | inr r ↦ rw (r.none, r.all) (one_line text r.unbroken)
]

pub kept_lines-cons : (line : List ℕ) (lines : List (List ℕ)) → kept_lines (line ∷ lines) ≡ kept_lines (line ∷ []) ++ kept_lines lines
kept_lines-cons line lines = go (is_kept_line (without_padding line)) refl
  where
    go : (kept : Bool) → is_kept_line (without_padding line) ≡ kept → kept_lines (line ∷ lines) ≡ kept_lines (line ∷ []) ++ kept_lines lines
    go true e = rw e refl
    go false e = rw e refl

kept_lines_left : (rest : Option (List ℕ)) → kept_lines (parts_left rest) ≡ lines_left rest
kept_lines_left None = refl
kept_lines_left (Some text) = refl

-- the lines of a text are its first line, if that is kept_lines, and those of the rest
pub first_line : (text line : List ℕ) (rest : Option (List ℕ)) → line ≡ before_first is_lf text → rest ≡ behind_first 10 text → lines_in text ≡ kept_lines (line ∷ []) ++ lines_left rest
first_line text line rest e f =
    ap kept_lines (first_part text) ∙ kept_lines-cons (before_first is_lf text) (parts_left (behind_first 10 text))
    ∙ ap (λ (l : List ℕ). kept_lines (l ∷ []) ++ kept_lines (parts_left (behind_first 10 text))) (sym e)
    ∙ ap (λ (r : Option (List ℕ)). kept_lines (line ∷ []) ++ kept_lines (parts_left r)) (sym f)
    ∙ ap (λ (ls : List (List ℕ)). kept_lines (line ∷ []) ++ ls) (kept_lines_left rest)
