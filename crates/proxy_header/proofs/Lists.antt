-- Lists by their fronts.
use Rattle.std.proofs.Common.{◌≡◌, ◌⊎◌, ℕ, ◌-◌, ◌<◌, ◌≤◌, List, [], ◌∷◌, ◌++◌, length, take, drop, get_or, refl, sym, ap, ◌∙◌, inl, inr, arith}
use Rattle.std.proofs.lemmas.List.{take_all}
use Rattle.base_syntax.proofs.Lists.{same_head, same_tail, same_cons}

-- of two fronts of one list, one begins with the other
pub compare : (a x b y : List ℕ) → a ++ x ≡ b ++ y → ((d : List ℕ) × (b ≡ a ++ d)) ⊎ ((d : List ℕ) × (a ≡ b ++ d))
compare [] x b y e = inl (b, refl)
compare (c ∷ a) x [] y e = inr (c ∷ a, refl)
compare (c ∷ a) x (d ∷ b) y e = elim (compare a x b y (same_tail e)) [
  | inl r ↦ inl (r.0, same_cons (sym (same_head e)) r.1)
  | inr r ↦ inr (r.0, same_cons (same_head e) r.1)
]

-- fronts that are equally long are the same, and so is what comes after them
pub same_front : (a x b y : List ℕ) → length a ≡ length b → a ++ x ≡ b ++ y → (a ≡ b) × (x ≡ y)
same_front [] x [] y len e = (refl, e)
same_front [] x (d ∷ b) y len e = absurd (omega arith)
same_front (c ∷ a) x [] y len e = absurd (omega arith)
same_front (c ∷ a) x (d ∷ b) y len e = let rest = same_front a x b y (omega arith) (same_tail e) in (same_cons (same_head e) rest.0, rest.1)

-- what comes after the first element
abbrev pub others : List ℕ → List ℕ
others bytes = take (length bytes - 1) (drop 1 bytes)

pub uncons : (bytes : List ℕ) → 1 ≤ length bytes → bytes ≡ get_or bytes 0 0 ∷ others bytes
uncons [] some = absurd (omega arith)
uncons (b ∷ bs) some = ap (λ (l : List ℕ). b ∷ l) (sym (take_all _ bs (omega arith)))

pub uncons_two : (bytes : List ℕ) → 1 ≤ length bytes → 1 ≤ length (others bytes) → bytes ≡ get_or bytes 0 0 ∷ get_or (others bytes) 0 0 ∷ others (others bytes)
uncons_two bytes some more = uncons bytes some ∙ ap (λ (l : List ℕ). get_or bytes 0 0 ∷ l) (uncons (others bytes) more)

pub is_empty : (bytes : List ℕ) → length bytes < 1 → bytes ≡ []
is_empty [] none = refl
is_empty (b ∷ bs) none = absurd (omega arith)

pub is_one : (bytes : List ℕ) → 1 ≤ length bytes → length (others bytes) < 1 → bytes ≡ get_or bytes 0 0 ∷ []
is_one bytes some none = uncons bytes some ∙ ap (λ (l : List ℕ). get_or bytes 0 0 ∷ l) (is_empty (others bytes) none)
