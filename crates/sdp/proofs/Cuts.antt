-- The first word of a text.
use Rattle.std.proofs.Common.{◌≡◌, ℕ, ◌+◌, ◌<◌, ◌≤◌, ◌==◌, suc, true, false, List, [], ◌∷◌, Option, length, take, drop, get_or, filter, refl, sym, ap, subst, ◌∙◌, inl, inr, arith, drop-cons, length-drop}
use Rattle.std.specs.Prelude.{unwrap_or}
use Rattle.std.specs.List.{slice_split, position_or_len, onto_first, before_first}
use Rattle.std.proofs.lemmas.Bool.Decides.{eqb_tells}
use Rattle.std.proofs.lemmas.List.{drop_all}
use Rattle.std.proofs.lemmas.List.Splits.{slice_split-cons_yes}
use Rattle.std.proofs.lemmas.List.Sums.{passes_at_first}
use Rattle.base_syntax.specs.Cuts.{behind_first}
use Rattle.base_syntax.specs.Lines.{has_bytes}
use Rattle.base_syntax.proofs.Cuts.{found_or_missing}
use Rattle.sdp.specs.Media.{words, is_space}

one_plus : (n : ℕ) → 1 + n ≡ suc n
one_plus n = omega arith

-- the parts of a text: what stands before the first space, and others that have the words of the rest
split_head : (xs : List ℕ) → (rest : List (List ℕ)) × (slice_split is_space xs ≡ take (position_or_len is_space xs) xs ∷ rest) × (filter has_bytes rest ≡ words (drop (position_or_len is_space xs) xs))
split_head [] = ([], refl, refl)
split_head (b ∷ bs) = elim (eqb_tells b 32) [
  | inl same ↦ (slice_split is_space bs, rw same.0 refl, rw same.0 (rw same.0 refl))
  | inr other ↦
      let more = split_head bs in
      (more.0, rw (other.0, one_plus) (ap (onto_first b) more.1), rw (other.0, one_plus) more.2)
]

-- a text that doesn't begin with a space begins with a word
pub first_word : (text : List ℕ) → 0 < length text → (get_or text 0 0 == 32) ≡ false → words text ≡ take (position_or_len is_space text) text ∷ words (drop (position_or_len is_space text) text)
first_word [] some other = absurd (omega arith)
first_word (b ∷ bs) some other =
    let more = split_head bs in
    rw (other, one_plus) (ap (λ (parts : List (List ℕ)). filter has_bytes (onto_first b parts)) more.1 ∙ ap (λ (ws : List (List ℕ)). (b ∷ take (position_or_len is_space bs) bs) ∷ ws) more.2)

pub true_false : true ≡ false → ⊥
true_false e = cc

pub not_zero : (n : ℕ) → (n == 0) ≡ false → 0 < n
not_zero n h = elim (eqb_tells n 0) [ inl same ↦ absurd (true_false (sym same.0 ∙ h)) | inr other ↦ omega (arith, other.1) ]

inside_by : (whole text : List ℕ) (lead : ℕ) → lead ≤ length whole → text ≡ drop lead whole → (length text == 0) ≡ false → lead < length whole
inside_by whole text lead within text_is some = omega (arith, not_zero (length text) some, ap length text_is, length-drop lead whole)

-- what stands after the first space has the words that stand after the first word
rest_words : (text : List ℕ) (rest : Option (List ℕ)) → rest ≡ behind_first 32 text → words (unwrap_or rest []) ≡ words (drop (position_or_len is_space text) text)
rest_words text rest is = elim (found_or_missing 32 text) [
  | inl r ↦
      let n : ℕ = position_or_len is_space text in
      let space : is_space (get_or text n 0) ≡ true = passes_at_first is_space text 0 r.below in
      let next : suc n ≡ n + 1 = omega arith in
      rw (is, r.found) (sym (ap words (drop-cons text n 0 r.below) ∙ ap (filter has_bytes) (slice_split-cons_yes is_space (get_or text n 0) (drop (suc n) text) space) ∙ ap (λ (k : ℕ). words (drop k text)) next))
  | inr r ↦ rw (is, r.none) (ap words (sym (drop_all (position_or_len is_space text) text (omega (arith, r.past)))))
]

-- the first word after spaces
pub next_word_is : (whole text word : List ℕ) (rest : Option (List ℕ)) (lead : ℕ) → lead ≤ length whole → text ≡ drop lead whole → words (drop lead whole) ≡ words whole → (lead < length whole → (get_or whole lead 0 == 32) ≡ false)
    → (length text == 0) ≡ false → word ≡ before_first is_space text → rest ≡ behind_first 32 text → words whole ≡ word ∷ words (unwrap_or rest [])
next_word_is whole text word rest lead within text_is same stops some word_is rest_is =
    let inside : lead < length whole = inside_by whole text lead within text_is some in
    let head : (get_or text 0 0 == 32) ≡ false = subst (λ (t : List ℕ). (get_or t 0 0 == 32) ≡ false) (sym (text_is ∙ drop-cons whole lead 0 inside)) (stops inside) in
    sym same ∙ ap words (sym text_is) ∙ first_word text (not_zero (length text) some) head
    ∙ ap (λ (w : List ℕ). w ∷ words (drop (position_or_len is_space text) text)) (sym word_is) ∙ ap (λ (ws : List (List ℕ)). word ∷ ws) (sym (rest_words text rest rest_is))
