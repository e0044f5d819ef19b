-- Good lines, each with CRLF, are the lines of their text.
use Rattle.std.proofs.Common.{◌≡◌, ℕ, ◌==◌, ◌&&◌, true, false, nat_lt, List, [], ◌∷◌, ◌++◌, length, map, filter, refl, sym, ap, ◌∙◌, inl, inr, append_assoc}
use Rattle.std.specs.List.{AllByRecursion, flat_map, list_all}
use Rattle.std.proofs.lemmas.Bool.{and_parts, eqb-true}
use Rattle.std.proofs.lemmas.Bool.Decides.{eqb_tells}
use Rattle.base_syntax.specs.Lines.{HasNoLf, ended, said, has_bytes}
use Rattle.base_syntax.proofs.LineEnds.{said-cr}
use Rattle.sdp.specs.Lines.{AreLines}
use Rattle.sdp.specs.Fields.{is_field, is_value_byte, is_letter, has_equals}
use Rattle.sdp.specs.Written.{written}
use Rattle.sdp.proofs.Cuts.{true_false}

abbrev pub IsGoodLine : List ℕ → Type 0
IsGoodLine line = is_field line ≡ true

written_ended : (lines : List (List ℕ)) → flat_map written lines ≡ flat_map ended (map (λ l. l ++ 13 ∷ []) lines) ++ []
written_ended [] = refl
written_ended (l ∷ lines) =
    ap (λ (r : List ℕ). written l ++ r) (written_ended lines)
    ∙ ap (λ (w : List ℕ). w ++ (flat_map ended (map (λ x. x ++ 13 ∷ []) lines) ++ [])) (sym (append_assoc l (13 ∷ []) (10 ∷ [])))
    ∙ sym (append_assoc (ended (l ++ 13 ∷ [])) (flat_map ended (map (λ x. x ++ 13 ∷ []) lines)) [])

value_byte : (b : ℕ) → is_value_byte b ≡ true → (b == 10) ≡ false
value_byte b h = elim (eqb_tells b 10) [ inl same ↦ absurd (true_false (sym h ∙ ap is_value_byte same.1)) | inr other ↦ other.0 ]

letter_byte : (b : ℕ) → is_letter b ≡ true → (b == 10) ≡ false
letter_byte b h = elim (eqb_tells b 10) [ inl same ↦ absurd (true_false (sym h ∙ ap is_letter same.1)) | inr other ↦ other.0 ]

no_lf_value : (value : List ℕ) → list_all is_value_byte value ≡ true → HasNoLf (value ++ 13 ∷ [])
no_lf_value [] h = (refl, tt)
no_lf_value (b ∷ value) h = let parts = and_parts (is_value_byte b) (list_all is_value_byte value) h in (value_byte b parts.0, no_lf_value value parts.1)

-- a good line has no LF, and isn't empty
no_lf_field : (line : List ℕ) → IsGoodLine line → HasNoLf (line ++ 13 ∷ []) × (has_bytes line ≡ true)
no_lf_field [] h = absurd (true_false (sym h))
no_lf_field (b ∷ []) h = absurd (true_false (sym h))
no_lf_field (b ∷ c ∷ value) h =
    let parts = and_parts (has_equals (b ∷ c ∷ value)) (is_letter b && list_all is_value_byte value) h in
    let equals = and_parts (nat_lt 1 (length (b ∷ c ∷ value))) (c == 61) parts.0 in
    let rest = and_parts (is_letter b) (list_all is_value_byte value) parts.1 in
    let second : (c == 10) ≡ false = rw (eqb-true c 61 equals.1) refl in
    ((letter_byte b rest.0, (second, no_lf_value value rest.1)), refl)

lines_again : (lines : List (List ℕ)) → AllByRecursion IsGoodLine lines → lines ≡ filter has_bytes (map said (map (λ l. l ++ 13 ∷ []) lines) ++ [] ∷ [])
lines_again [] p = refl
lines_again (l ∷ lines) p = rw (said-cr, (no_lf_field l p.0).1) (ap (λ (r : List (List ℕ)). l ∷ r) (lines_again lines p.1))

unbroken_again : (lines : List (List ℕ)) → AllByRecursion IsGoodLine lines → AllByRecursion HasNoLf (map (λ l. l ++ 13 ∷ []) lines)
unbroken_again [] p = tt
unbroken_again (l ∷ lines) p = ((no_lf_field l p.0).0, unbroken_again lines p.1)

pub are_lines : (lines : List (List ℕ)) → AllByRecursion IsGoodLine lines → AreLines (flat_map written lines) lines
are_lines lines p = record {
  whole_lines = map (λ l. l ++ 13 ∷ []) lines;
  last = [];
  whole = written_ended lines;
  unbroken = unbroken_again lines p;
  last_unbroken = tt;
  lines_are = lines_again lines p;
}
