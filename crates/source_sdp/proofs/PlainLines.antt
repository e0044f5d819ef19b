-- Lines that describe formats, and the control after them.
use Rattle.std.proofs.Common.{◌≡◌, ℕ, ◌<◌, ◌^◌, true, false, List, [], ◌∷◌, ◌++◌, Some, codes, decimal, refl, sym, ap, subst, ◌∙◌, inl, inr, arith}
use Rattle.std.specs.List.{list_all}
use Rattle.std.specs.Char.{digit_value}
use Rattle.std.specs.Str.Parse.{AllDigits}
use Rattle.std.proofs.lemmas.Bool.{and_parts}
use Rattle.std.proofs.lemmas.Bool.Decides.{eqb_tells}
use Rattle.std.proofs.lemmas.Fmt.{decimal_is_IsNumeral}
use Rattle.sdp.specs.Fields.{is_field, is_value_byte, is_media, is_control, control_among}
use Rattle.sdp.specs.Sections.{HasNoMedia}
use Rattle.sdp.specs.Written.{track_control}
use Rattle.sdp.proofs.Cuts.{true_false}
use Rattle.source_sdp.specs.Usable.{describes_format}
use Rattle.source_sdp.specs.Announced.{control_line}
use Rattle.source_sdp.proofs.Texts.{both_pass, field_of}

third : (rest : List ℕ) → describes_format (97 ∷ 61 ∷ rest) ≡ true → is_control (97 ∷ 61 ∷ rest) ≡ false
third [] h = refl
third (d ∷ rest) h = elim (eqb_tells d 99) [
  | inl same ↦ absurd (true_false (sym (subst (λ n. describes_format (97 ∷ 61 ∷ n ∷ rest) ≡ true) same.1 h)))
  | inr other ↦ rw other.0 refl
]

second : (rest : List ℕ) → describes_format (97 ∷ rest) ≡ true → is_control (97 ∷ rest) ≡ false
second [] h = refl
second (c ∷ rest) h = elim (eqb_tells c 61) [
  | inl same ↦
      ap (λ n. is_control (97 ∷ n ∷ rest)) same.1 ∙ third rest (subst (λ n. describes_format (97 ∷ n ∷ rest) ≡ true) same.1 h)
  | inr other ↦ rw other.0 refl
]

-- a line that describes formats opens no section, and is no control
pub plain : (line : List ℕ) → describes_format line ≡ true → (is_media line ≡ false) × (is_control line ≡ false)
plain [] h = absurd (true_false (sym h))
plain (b ∷ rest) h = elim (eqb_tells b 97) [
  | inl same ↦ (ap (λ n. is_media (n ∷ rest)) same.1, ap (λ n. is_control (n ∷ rest)) same.1 ∙ second rest (subst (λ n. describes_format (n ∷ rest) ≡ true) same.1 h))
  | inr other ↦ absurd (let none : describes_format (b ∷ rest) ≡ false = rw other.0 refl in true_false (sym h ∙ none))
]

pub no_media_lines : (lines : List (List ℕ)) → list_all describes_format lines ≡ true → HasNoMedia lines
no_media_lines [] h = tt
no_media_lines (l ∷ lines) h = let parts = and_parts (describes_format l) (list_all describes_format lines) h in ((plain l parts.0).0, no_media_lines lines parts.1)

-- the control is found after them
pub control_found : (lines : List (List ℕ)) (number : ℕ) → list_all describes_format lines ≡ true → control_among (lines ++ control_line number ∷ []) ≡ Some (track_control number)
control_found [] number h = refl
control_found (l ∷ lines) number h = let parts = and_parts (describes_format l) (list_all describes_format lines) h in rw (plain l parts.0).1 (control_found lines number parts.1)

digit_byte : (c : ℕ) → digit_value c < 10 → is_value_byte c ≡ true
digit_byte c h = elim (eqb_tells c 0) [
  | inl nul ↦ absurd (let bad : digit_value 0 < 10 = subst (λ (n : ℕ). digit_value n < 10) nul.1 h in omega (arith, bad))
  | inr some ↦ elim (eqb_tells c 10) [
    | inl lf ↦ absurd (let bad : digit_value 10 < 10 = subst (λ (n : ℕ). digit_value n < 10) lf.1 h in omega (arith, bad))
    | inr other ↦ elim (eqb_tells c 13) [
      | inl cr ↦ absurd (let bad : digit_value 13 < 10 = subst (λ (n : ℕ). digit_value n < 10) cr.1 h in omega (arith, bad))
      | inr last ↦ rw (some.0, other.0, last.0) refl
    ]
  ]
]

digits_are_values : (digits : List ℕ) → AllDigits 10 digits → list_all is_value_byte digits ≡ true
digits_are_values [] p = refl
digits_are_values (c ∷ digits) p = rw (digit_byte c p.0) (digits_are_values digits p.1)

lt_big : (n : ℕ) → n < 16 → n < 2 ^ 64
lt_big n h = omega arith

pub control_field : (number : ℕ) → number < 16 → is_field (control_line number) ≡ true
control_field number h =
    let numeral = decimal_is_IsNumeral number (lt_big number h) in
    field_of 97 (codes "control:trackID=" ++ decimal number) refl (both_pass is_value_byte (codes "control:trackID=") (decimal number) refl (digits_are_values (decimal number) numeral.0.1))
