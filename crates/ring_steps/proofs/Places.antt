-- Which packets have one place in a ring, and what the slots are after a write at a place.
use Rattle.std.proofs.Common.{◌≡◌, ◌≢◌, ℕ, zero, suc, ◌+◌, ◌*◌, ◌/◌, ◌%◌, ◌<◌, ◌≤◌, Bool, true, false, ◌⊎◌, inl, inr, List, [], ◌∷◌, length, refl, ◌∙◌, ap, arith, slice_set, slice_index_or, get_or-set_other, get_or-set_same, nat_lt}
use Rattle.std.proofs.Math.Nat.{div-add-mod, add-mod_right, mod-eq_of_lt, mul-le-mul_left}
use Rattle.std.proofs.lemmas.Nat.{mod_below}
use Rattle.std.proofs.lemmas.Bool.Decides.{eqb_tells, leb_tells}
use Rattle.std.proofs.lemmas.Bool.{cases_lt}
use Rattle.ring_steps.specs.declared.words.Slot.{Slot}
use Rattle.ring_steps.specs.Ring.{fresh_slot}
use Rattle.ring_steps.specs.Step.{with_pins}

-- of two numbers with one rest the greater is a whole round further
rounds : (w q r n m t : ℕ) → w * q + t ≡ n → w * r + t ≡ m → n < m → n + w ≤ m
rounds w q r n m t a b lt = elim (cases_lt q r) [
  | inl e ↦ let more : q + 1 ≤ r = omega (arith, e) in omega (arith, mul-le-mul_left w more)
  | inr e ↦ let less : r ≤ q = omega (arith, e) in absurd (omega (arith, mul-le-mul_left w less))
]

-- two numbers with one place are a whole round apart
pub place_apart : (k n m : ℕ) → n < m → n % (k + 1) ≡ m % (k + 1) → n + k + 1 ≤ m
place_apart k n m lt same =
    let far = rounds (k + 1) (n / (k + 1)) (m / (k + 1)) n m (m % (k + 1)) (rw (← same) (div-add-mod n (k + 1))) (div-add-mod m (k + 1)) lt in
    omega arith

-- one round further is the same place
pub place_again : (k n m : ℕ) → m ≡ n + k + 1 → m % (k + 1) ≡ n % (k + 1)
place_again k n m e = let f : m ≡ n + (k + 1) = omega arith in rw f (add-mod_right n (k + 1))

pub place_small : (k n : ℕ) → n ≤ k → n % (k + 1) ≡ n
place_small k n h = let lt : n < k + 1 = omega arith in mod-eq_of_lt lt

pub place_within : (k n : ℕ) → n % (k + 1) ≤ k
place_within k n = let h : 0 < k + 1 = omega arith in omega (arith, mod_below n (k + 1) h)

-- what a list has at a place after a write
pub at_set : {X : Type 0} (xs : List X) (j i : ℕ) (x d : X) → j < length xs
    → ((i ≡ j) × (slice_index_or (slice_set xs j x) i d ≡ x)) ⊎ ((i ≢ j) × (slice_index_or (slice_set xs j x) i d ≡ slice_index_or xs i d))
at_set xs j i x d within = elim (eqb_tells i j) [
  | inl e ↦ inl (e.1, ap (λ n. slice_index_or (slice_set xs j x) n d) e.1 ∙ get_or-set_same xs j x d within)
  | inr e ↦ inr (e.1, get_or-set_other xs j i x d e.1)
]

-- a write of pins changes nothing else of any slot
pub pins_alone : (xs : List Slot) (j n i : ℕ)
    → (let y = slice_index_or (slice_set xs j (with_pins (slice_index_or xs j fresh_slot) n)) i fresh_slot in let x = slice_index_or xs i fresh_slot in
    (y.word.number ≡ x.word.number) × (y.word.writing ≡ x.word.writing) × (y.len ≡ x.len) × (y.bytes ≡ x.bytes))
pins_alone [] j n i = (refl, refl, refl, refl)
pins_alone (x ∷ xs) zero n zero = (refl, refl, refl, refl)
pins_alone (x ∷ xs) zero n (suc i) = (refl, refl, refl, refl)
pins_alone (x ∷ xs) (suc j) n zero = (refl, refl, refl, refl)
pins_alone (x ∷ xs) (suc j) n (suc i) = pins_alone xs j n i

-- what the test of an order tells
pub lt_tells : (a b : ℕ) → ((nat_lt a b ≡ true) × (a < b)) ⊎ ((nat_lt a b ≡ false) × (b ≤ a))
lt_tells a b = elim (leb_tells (suc a) b) [
  | inl e ↦ let l = e.1 in inl (e.0, omega arith)
  | inr e ↦ let l = e.1 in inr (e.0, omega arith)
]

-- what follows from a test either way
pub by_test : {P : Type 0} (b : Bool) → (b ≡ true → P) → (b ≡ false → P) → P
by_test true f g = f refl
by_test false f g = g refl
