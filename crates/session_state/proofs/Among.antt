-- Whether a number is among others, and what a filter leaves.
use Rattle.std.proofs.Common.{◌≡◌, ℕ, zero, suc, ◌<◌, ◌==◌, ◌⊎◌, inl, inr, Bool, true, false, cond, List, [], ◌∷◌, length, get_or, refl, ap, arith}
use Rattle.std.specs.List.{AllByRecursion, Contains, filter}
use Rattle.std.proofs.lemmas.Bool.{eq-eqb, eqb-true}

-- whether a number is among others
abbrev pub among : ℕ → List ℕ → Bool
among number [] = false
among number (one ∷ others) = cond (one == number) true (among number others)

pub among_some : (number : ℕ) (numbers : List ℕ) → among number numbers ≡ true → Contains numbers number
among_some number [] is = absurd (cc)
among_some number (one ∷ others) is = by (one == number) refl is (among_some number others)
  where
    behind : Contains others number → Contains (one ∷ others) number
    behind (k, below, at) = (suc k, omega arith, at)

    by : (same : Bool) → (one == number) ≡ same → cond same true (among number others) ≡ true → (among number others ≡ true → Contains others number) → Contains (one ∷ others) number
    by true same is later = (0, omega arith, eqb-true one number same)
    by false other is later = behind (later is)

pub some_among : (number : ℕ) (numbers : List ℕ) (k : ℕ) → k < length numbers → get_or numbers k number ≡ number → among number numbers ≡ true
some_among number [] k below at = absurd (omega arith)
some_among number (one ∷ others) zero below at = ap (λ b. cond b true (among number others)) (eq-eqb one number at)
some_among number (one ∷ others) (suc k) below at = by (one == number) (some_among number others k (omega arith) at)
  where
    by : (same : Bool) → among number others ≡ true → cond same true (among number others) ≡ true
    by true is = refl
    by false is = is

pub is_or_not : (numbers : List ℕ) (number : ℕ) → Contains numbers number ⊎ (Contains numbers number → ⊥)
is_or_not numbers number = by (among number numbers) refl
  where
    by : (is : Bool) → among number numbers ≡ is → Contains numbers number ⊎ (Contains numbers number → ⊥)
    by true is = inl (among_some number numbers is)
    by false is = inr (λ has. let there = some_among number numbers has.0 has.1 has.2 in absurd (cc))

-- what holds of each element holds of those that a test keeps
pub each_filtered : {X : Type 0} (P : X → Type 0) (test : X → Bool) (xs : List X) → AllByRecursion P xs → AllByRecursion P (filter test xs)
each_filtered P test [] each = tt
each_filtered P test (x ∷ xs) each = by (test x) (each_filtered P test xs each.1)
  where
    by : (kept : Bool) → AllByRecursion P (filter test xs) → AllByRecursion P (cond kept (x ∷ filter test xs) (filter test xs))
    by true rest = (each.0, rest)
    by false rest = rest
