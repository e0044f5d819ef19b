-- Cutting a text at the first of a byte.
use Rattle.std.proofs.Common.{◌≡◌, ◌==◌, ℕ, ◌+◌, ◌-◌, ◌<◌, suc, true, false, List, [], ◌∷◌, ◌++◌, ◌⊎◌, inl, inr, Option, None, Some, length, take, drop, refl, sym, ap, subst, ◌∙◌, arith, length-drop}
use Rattle.std.specs.List.{list_any, position_or_len, before_first, after_first}
use Rattle.std.proofs.lemmas.Bool.{eq-eqb, false_from_ne_true}
use Rattle.std.proofs.lemmas.Bool.Decides.{eqb_tells}
use Rattle.std.proofs.lemmas.List.{take_all}
use Rattle.std.proofs.lemmas.List.Sums.{position_or_len_is}
use Rattle.memchr.specs.Find.{NoneBefore, Nowhere, Passes, is_byte}
use Rattle.base_syntax.specs.Cuts.{HasNone, IsCut, behind_first}

-- where `memchr` finds a byte
pub place_found : (b : ℕ) (text : List ℕ) (end : ℕ) → NoneBefore (Passes (is_byte b) text) 0 (length text) end → Passes (is_byte b) text end → position_or_len (λ x. x == b) text ≡ end
place_found b text end none here =
    position_or_len_is (λ x. x == b) text end 0 (omega (arith, none.high)) (λ k below. false_from_ne_true _ (none.before k (omega arith) below)) (λ _. here)

pub place_missing : (b : ℕ) (text : List ℕ) → Nowhere (Passes (is_byte b) text) 0 (length text) → position_or_len (λ x. x == b) text ≡ length text
place_missing b text none =
    position_or_len_is (λ x. x == b) text (length text) 0 (omega arith) (λ k below. false_from_ne_true _ (none k (omega arith) below)) (λ below. absurd (omega arith))

pub one_plus : (n : ℕ) → 1 + n ≡ suc n
one_plus n = omega arith

pub one_more : (n : ℕ) → 1 + n + 1 ≡ suc (n + 1)
one_more n = omega arith

-- such a byte stands somewhere in the text
pub record IsFound (b : ℕ) (text : List ℕ) : Type 0 where
  pub found : list_any (λ x. x == b) text ≡ true
  pub front : HasNone b (before_first (λ x. x == b) text)
  pub whole : text ≡ before_first (λ x. x == b) text ++ b ∷ after_first (λ x. x == b) text
  pub below : position_or_len (λ x. x == b) text < length text

-- or nowhere
pub record IsMissing (b : ℕ) (text : List ℕ) : Type 0 where
  pub none : list_any (λ x. x == b) text ≡ false
  pub unbroken : HasNone b text
  pub all : before_first (λ x. x == b) text ≡ text
  pub past : position_or_len (λ x. x == b) text ≡ length text

pub found_or_missing : (b : ℕ) (text : List ℕ) → IsFound b text ⊎ IsMissing b text
found_or_missing b [] = inr (record { none = refl; unbroken = tt; all = refl; past = refl })
found_or_missing b (x ∷ xs) = elim (eqb_tells x b) [
  | inl same ↦
      inl (record { found = rw same.0 refl; front = rw same.0 tt; whole = rw same.0 (ap (λ (n : ℕ). n ∷ xs) same.1); below = rw same.0 (omega arith) })
  | inr other ↦ elim (found_or_missing b xs) [
    | inl r ↦
        inl (record {
          found = rw other.0 r.found;
          front = rw (other.0, one_plus) (other.0, r.front);
          whole = rw (other.0, one_more, one_plus) (ap (λ (l : List ℕ). x ∷ l) r.whole);
          below = rw other.0 (omega (arith, r.below));
        })
    | inr r ↦
        inr (record {
          none = rw other.0 r.none;
          unbroken = (other.0, r.unbroken);
          all = rw (other.0, one_plus) (ap (λ (l : List ℕ). x ∷ l) r.all);
          past = rw other.0 (omega (arith, r.past));
        })
  ]
]

pub behind_nothing : (b : ℕ) (text : List ℕ) → position_or_len (λ x. x == b) text ≡ length text → None ≡ behind_first b text
behind_nothing b text h = elim (found_or_missing b text) [
  | inl r ↦ absurd (omega (arith, r.below, h))
  | inr r ↦ rw r.none refl
]

pub behind_place : (b : ℕ) (text : List ℕ) (end : ℕ) → end ≡ position_or_len (λ x. x == b) text → end < length text → Some (take (length text - (end + 1)) (drop (end + 1) text)) ≡ behind_first b text
behind_place b text end place inside = elim (found_or_missing b text) [
  | inl r ↦
      let rest : take (length text - (end + 1)) (drop (end + 1) text) ≡ drop (end + 1) text = take_all (length text - (end + 1)) (drop (end + 1) text) (omega (arith, length-drop (end + 1) text)) in
      rw r.found (ap (λ (l : List ℕ). Some l) (rest ∙ ap (λ (n : ℕ). drop (n + 1) text) place))
  | inr r ↦ absurd (omega (arith, r.past, place, inside))
]

-- the law
pub is_cut : (b : ℕ) (text : List ℕ) → IsCut b text (before_first (λ x. x == b) text) (behind_first b text)
is_cut b text = elim (found_or_missing b text) [
  | inl r ↦ rw r.found (r.whole, r.front)
  | inr r ↦ rw r.none (sym r.all, rw r.all r.unbroken)
]

pub cut_as : (b : ℕ) (text front : List ℕ) (behind : Option (List ℕ)) → front ≡ before_first (λ x. x == b) text → behind ≡ behind_first b text → IsCut b text front behind
cut_as b text front behind front_is behind_is =
    subst (λ (f : List ℕ). IsCut b text f behind) (sym front_is) (subst (λ (o : Option (List ℕ)). IsCut b text (before_first (λ x. x == b) text) o) (sym behind_is) (is_cut b text))

-- a text is cut after a front without such a byte
pub cut_behind : (b : ℕ) (front rest : List ℕ) → HasNone b front
    → (before_first (λ x. x == b) (front ++ b ∷ rest) ≡ front) × (behind_first b (front ++ b ∷ rest) ≡ Some rest)
cut_behind b [] rest h = let same = eq-eqb b b refl in (rw same refl, rw same refl)
cut_behind b (x ∷ front) rest h =
    let others = cut_behind b front rest h.1 in
    (rw (h.0, one_plus) (ap (λ (l : List ℕ). x ∷ l) others.0), rw (h.0, one_more) others.1)

pub uncut : (b : ℕ) (text : List ℕ) → HasNone b text → (before_first (λ x. x == b) text ≡ text) × (behind_first b text ≡ None)
uncut b [] h = (refl, refl)
uncut b (x ∷ xs) h =
    let others = uncut b xs h.1 in
    (rw (h.0, one_plus) (ap (λ (l : List ℕ). x ∷ l) others.0), rw (h.0, one_more) others.1)

pub only_front : (b : ℕ) (text front : List ℕ) (behind : Option (List ℕ)) → IsCut b text front behind → front ≡ before_first (λ x. x == b) text
only_front b text front None h = sym (ap (before_first (λ x. x == b)) h.0 ∙ (uncut b front h.1).0)
only_front b text front (Some rest) h = sym (ap (before_first (λ x. x == b)) h.0 ∙ (cut_behind b front rest h.1).0)

pub only_behind : (b : ℕ) (text front : List ℕ) (behind : Option (List ℕ)) → IsCut b text front behind → behind ≡ behind_first b text
only_behind b text front None h = sym (ap (behind_first b) h.0 ∙ (uncut b front h.1).1)
only_behind b text front (Some rest) h = sym (ap (behind_first b) h.0 ∙ (cut_behind b front rest h.1).1)
