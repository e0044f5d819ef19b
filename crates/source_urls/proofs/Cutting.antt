-- Fronts of texts, and texts without a byte.
use Rattle.std.proofs.Common.{◌≡◌, ◌==◌, ℕ, suc, zero, Bool, true, false, List, [], ◌∷◌, ◌++◌, inl, inr, length, take, drop, refl, sym, ap, ◌∙◌}
use Rattle.std.specs.List.{list_any, list_all, before_first}
use Rattle.std.proofs.lemmas.Bool.{and_parts, ne_eqb, true≢false}
use Rattle.base_syntax.specs.Cuts.{HasNone}
use Rattle.base_syntax.proofs.Cuts.{found_or_missing, one_plus}

-- a front and what is behind it are the text
pub front_back : (n : ℕ) (xs : List ℕ) → xs ≡ take n xs ++ drop (length (take n xs)) xs
front_back zero xs = refl
front_back (suc n) [] = refl
front_back (suc n) (x ∷ xs) = ap (λ (l : List ℕ). x ∷ l) (front_back n xs)

pub none_front : (b : ℕ) (xs ys : List ℕ) → HasNone b (xs ++ ys) → HasNone b xs
none_front b [] ys h = tt
none_front b (x ∷ xs) ys h = (h.0, none_front b xs ys h.1)

pub none_back : (b : ℕ) (xs ys : List ℕ) → HasNone b (xs ++ ys) → HasNone b ys
none_back b [] ys h = h
none_back b (x ∷ xs) ys h = none_back b xs ys h.1

pub none_append : (b : ℕ) (xs ys : List ℕ) → HasNone b xs → HasNone b ys → HasNone b (xs ++ ys)
none_append b [] ys h k = k
none_append b (x ∷ xs) ys h k = (h.0, none_append b xs ys h.1 k)

pub none_any : (b : ℕ) (xs : List ℕ) → HasNone b xs → list_any (λ x. x == b) xs ≡ false
none_any b [] h = refl
none_any b (x ∷ xs) h = rw h.0 (none_any b xs h.1)

pub none_from_any : (b : ℕ) (xs : List ℕ) → list_any (λ x. x == b) xs ≡ false → HasNone b xs
none_from_any b xs h = elim (found_or_missing b xs) [
  | inl r ↦ absurd (let found = r.found in cc)
  | inr r ↦ r.unbroken
]

pub different : (p : ℕ → Bool) (b x : ℕ) → p b ≡ false → p x ≡ true → (x == b) ≡ false
different p b x h k = ne_eqb x b (λ (same : x ≡ b). true≢false (sym k ∙ (ap p same ∙ h)))

-- a byte that a test doesn't let pass is in no text that passes
pub none_passing : (p : ℕ → Bool) (b : ℕ) (xs : List ℕ) → p b ≡ false → list_all p xs ≡ true → HasNone b xs
none_passing p b [] h all = tt
none_passing p b (x ∷ xs) h all =
    let both = and_parts (p x) (list_all p xs) all in
    (different p b x h both.0, none_passing p b xs h both.1)

-- a front without the byte stays before the first one
pub before_first-append : (b : ℕ) (front xs : List ℕ) → HasNone b front → before_first (λ x. x == b) (front ++ xs) ≡ front ++ before_first (λ x. x == b) xs
before_first-append b [] xs h = refl
before_first-append b (x ∷ front) xs h = rw (h.0, one_plus) (ap (λ (l : List ℕ). x ∷ l) (before_first-append b front xs h.1))
