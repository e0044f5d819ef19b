-- The parts of a text that a byte separates, one after another.
use Rattle.std.proofs.Common.{◌≡◌, ◌==◌, ◌<◌, ◌≤◌, ◌+◌, ◌-◌, ℕ, suc, Option, None, Some, List, [], ◌∷◌, slice_get, refl, ap, ◌∙◌, arith, inl, inr}
use Rattle.std.specs.List.{before_first, onto_first, slice_split}
use Rattle.std.specs.Option.{option_or}
use Rattle.std.proofs.lemmas.List.Splits.{slice_split_first, slice_split-cons_no}
use Rattle.base_syntax.specs.Cuts.{HasNone, behind_first}
use Rattle.base_syntax.proofs.Cuts.{found_or_missing}
use Rattle.process_figures.specs.Lines.{behind_name, first_behind}

abbrev pub parts : (separator : ℕ) → List ℕ → List (List ℕ)
parts separator text = slice_split (λ b. b == separator) text

-- the parts of what is left of a text, if something is
abbrev pub parts_left : (separator : ℕ) → Option (List ℕ) → List (List ℕ)
parts_left separator None = []
parts_left separator (Some text) = parts separator text

-- a text without the separator is one part
one_part : (separator : ℕ) (text : List ℕ) → HasNone separator text → parts separator text ≡ text ∷ []
one_part separator [] h = refl
one_part separator (b ∷ bs) h = slice_split-cons_no (λ x. x == separator) b bs h.0 ∙ ap (onto_first b) (one_part separator bs h.1)

-- the first part ends at the first separator
pub first_part : (separator : ℕ) (text : List ℕ) → parts separator text ≡ before_first (λ b. b == separator) text ∷ parts_left separator (behind_first separator text)
first_part separator text = elim (found_or_missing separator text) [
  | inl r ↦ rw r.found (slice_split_first (λ b. b == separator) text 0 r.below)
  | inr r ↦ rw (r.none, r.all) (one_part separator text r.unbroken)
]

-- the part at a place, in what is left behind the first part
pub later_part : (separator : ℕ) (text : List ℕ) (rest : Option (List ℕ)) (place passed : ℕ) → rest ≡ behind_first separator text → passed < place
    → slice_get (parts separator text) (place - passed) ≡ slice_get (parts_left separator rest) (place - (passed + 1))
later_part separator text rest place passed e below =
    let more : place - passed ≡ suc (place - (passed + 1)) = omega arith in
    rw (more, first_part separator text, e) refl

-- the first part
pub this_part : (separator : ℕ) (text : List ℕ) (place passed : ℕ) → place ≤ passed
    → slice_get (parts separator text) (place - passed) ≡ Some (before_first (λ b. b == separator) text)
this_part separator text place passed over =
    let none : place - passed ≡ 0 = omega arith in
    rw (none, first_part separator text) refl

-- the first line, and the others
pub first_line : (name text line : List ℕ) (others : Option (List ℕ)) → line ≡ before_first (λ b. b == 10) text → others ≡ behind_first 10 text
    → first_behind name (parts 10 text) ≡ option_or (behind_name name line) (first_behind name (parts_left 10 others))
first_line name text line others e f = rw (first_part 10 text, e, f) refl
