-- Where the first CR LF of a text is.
use Rattle.std.proofs.Common.{◌≡◌, ℕ, zero, suc, ◌+◌, ◌-◌, ◌<◌, ◌≤◌, List, [], ◌∷◌, ◌++◌, length, take, drop, get_or, refl, sym, ap, ◌∙◌, inl, inr, arith, append_assoc, append-nil, length-append, length-take, take-append-drop}
use Rattle.std.proofs.Math.Seq.{drop-cons}
use Rattle.std.proofs.lemmas.List.{append_cancel_left, get_or-append_right}
use Rattle.base_syntax.proofs.Lists.{same_head, same_tail}
use Rattle.memchr.specs.Find.{NoneBefore, Nowhere, OccursAt}
use Rattle.proxy_header.specs.Lines.{HasNoCrlf, crlf}
use Rattle.proxy_header.proofs.Lists.{compare}

-- The text has a CR LF at this place, and none before.
pub record IsBreak (text : List ℕ) (end : ℕ) : Type 0 where
  pub within : end + 2 ≤ length text
  pub whole : text ≡ take end text ++ 13 ∷ 10 ∷ drop (suc (suc end)) text
  pub unbroken : HasNoCrlf (take end text)

-- a CR LF after a front is at its end
occurs_behind : (text front rest : List ℕ) → text ≡ front ++ 13 ∷ 10 ∷ rest → OccursAt text crlf (length front)
occurs_behind text front rest e = rw e (record {
  fits = omega (arith, length-append front (13 ∷ 10 ∷ rest));
  reads = λ j below. reads j below;
})
  where
    at : (j : ℕ) → get_or (front ++ 13 ∷ 10 ∷ rest) (length front + j) 0 ≡ get_or (13 ∷ 10 ∷ rest) j 0
    at j = let back : length front + j - length front ≡ j = omega arith in get_or-append_right front (13 ∷ 10 ∷ rest) (length front) (length front + j) 0 refl (omega arith) ∙ ap (λ (i : ℕ). get_or (13 ∷ 10 ∷ rest) i 0) back

    reads : (j : ℕ) → j < 2 → get_or (front ++ 13 ∷ 10 ∷ rest) (length front + j) 0 ≡ get_or crlf j 0
    reads zero below = at 0
    reads (suc zero) below = at 1
    reads (suc (suc j)) below = absurd (omega arith)

occurs_whole : (text : List ℕ) (k : ℕ) → OccursAt text crlf k → text ≡ take k text ++ 13 ∷ 10 ∷ drop (suc (suc k)) text
occurs_whole text k p =
    let first : k < length text = omega (arith, p.fits) in
    let other : suc k < length text = omega (arith, p.fits) in
    let here : k + 0 ≡ k = omega arith in
    let next : k + 1 ≡ suc k = omega arith in
    let cr : get_or text k 0 ≡ 13 = ap (λ (i : ℕ). get_or text i 0) (sym here) ∙ p.reads 0 (omega arith) in
    let lf : get_or text (suc k) 0 ≡ 10 = ap (λ (i : ℕ). get_or text i 0) (sym next) ∙ p.reads 1 (omega arith) in
    sym (take-append-drop k text) ∙ ap (λ (l : List ℕ). take k text ++ l) (drop-cons text k 0 first ∙ rw (cr, drop-cons text (suc k) 0 other, lf) refl)

-- where none is found
pub none_anywhere : (text : List ℕ) → Nowhere (OccursAt text crlf) 0 (length text + 1) → HasNoCrlf text
none_anywhere text none front rest e =
    let whole : text ≡ front ++ 13 ∷ 10 ∷ rest = e ∙ append_assoc front crlf rest in
    none (length front) (omega arith) (omega (arith, ap length whole, length-append front (13 ∷ 10 ∷ rest))) (occurs_behind text front rest whole)

-- where one is found first
pub first_break : (text : List ℕ) (end : ℕ) → NoneBefore (OccursAt text crlf) 0 (length text + 1) end → OccursAt text crlf end → IsBreak text end
first_break text end none here = record {
  within = here.fits;
  whole = occurs_whole text end here;
  unbroken = λ front rest e.
      let whole : text ≡ front ++ 13 ∷ 10 ∷ (rest ++ drop end text) = sym (take-append-drop end text) ∙ ap (λ (l : List ℕ). l ++ drop end text) (e ∙ append_assoc front crlf rest) ∙ append_assoc front (13 ∷ 10 ∷ rest) (drop end text) in
      none.before (length front) (omega arith) (omega (arith, ap length e, length-append (front ++ crlf) rest, length-append front crlf, length-take end text)) (occurs_behind text front (rest ++ drop end text) whole);
}

-- the longer of two texts before a CR LF holds one
holds : (a d x y : List ℕ) → HasNoCrlf (a ++ d) → 13 ∷ 10 ∷ x ≡ d ++ 13 ∷ 10 ∷ y → d ≡ []
holds a [] x y none e = refl
holds a (b ∷ []) x y none e = let same : ◌≡◌ {A = ℕ} 10 13 = same_head (same_tail e) in absurd (omega (arith, same))
holds a (b ∷ c ∷ d) x y none e =
    let first : b ≡ 13 = cc in
    let other : c ≡ 10 = cc in
    absurd (none a d (ap (λ (l : List ℕ). a ++ l) (rw (first, other) refl) ∙ sym (append_assoc a crlf d)))

-- there is one text before the first CR LF
pub same_text : (a b x y : List ℕ) → HasNoCrlf a → HasNoCrlf b → a ++ 13 ∷ 10 ∷ x ≡ b ++ 13 ∷ 10 ∷ y → a ≡ b
same_text a b x y p q e = elim (compare a (13 ∷ 10 ∷ x) b (13 ∷ 10 ∷ y) e) [
  | inl r ↦
      let rest : 13 ∷ 10 ∷ x ≡ r.0 ++ 13 ∷ 10 ∷ y = append_cancel_left a _ _ (e ∙ ap (λ (l : List ℕ). l ++ 13 ∷ 10 ∷ y) r.1 ∙ append_assoc a r.0 (13 ∷ 10 ∷ y)) in
      let none : r.0 ≡ [] = holds a r.0 x y (rw (← r.1) q) rest in
      sym (r.1 ∙ ap (λ (l : List ℕ). a ++ l) none ∙ append-nil a)
  | inr r ↦
      let rest : 13 ∷ 10 ∷ y ≡ r.0 ++ 13 ∷ 10 ∷ x = append_cancel_left b _ _ (sym e ∙ ap (λ (l : List ℕ). l ++ 13 ∷ 10 ∷ x) r.1 ∙ append_assoc b r.0 (13 ∷ 10 ∷ x)) in
      let none : r.0 ≡ [] = holds b r.0 y x (rw (← r.1) p) rest in
      r.1 ∙ ap (λ (l : List ℕ). b ++ l) none ∙ append-nil b
]

-- the first CR LF comes after all bytes that hold none
pub break_behind : (text more front rest : List ℕ) → HasNoCrlf text → text ++ more ≡ front ++ 13 ∷ 10 ∷ rest → length text < length front + 2
break_behind text more front rest none e = elim (compare text more (front ++ crlf) rest (e ∙ sym (append_assoc front crlf rest))) [
  | inl r ↦ shorter r.0 r.1
  | inr r ↦ absurd (none front r.0 r.1)
]
  where
    shorter : (d : List ℕ) → front ++ crlf ≡ text ++ d → length text < length front + 2
    shorter [] f = absurd (none front [] (sym (append-nil text) ∙ sym f ∙ sym (append-nil (front ++ crlf))))
    shorter (b ∷ d) f = omega (arith, ap length f, length-append front crlf, length-append text (b ∷ d))
