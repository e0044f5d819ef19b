-- Lists in which one place is written.
use Rattle.std.proofs.Common.{◌≡◌, ◌≢◌, ℕ, zero, suc, Some, List, [], ◌∷◌, refl, ap, subst, slice_get, slice_set}
use Rattle.std.specs.List.{AllByRecursion}

pub read_written : {X : Type 0} (xs : List X) (i : ℕ) (old new : X) → slice_get xs i ≡ Some old → slice_get (slice_set xs i new) i ≡ Some new
read_written [] i old new at = absurd (cc)
read_written (x ∷ xs) zero old new at = refl
read_written (x ∷ xs) (suc i) old new at = read_written xs i old new at

pub read_other : {X : Type 0} (xs : List X) (i j : ℕ) (new : X) → j ≢ i → slice_get (slice_set xs i new) j ≡ slice_get xs j
read_other [] i j new ne = refl
read_other (x ∷ xs) zero zero new ne = absurd (ne refl)
read_other (x ∷ xs) zero (suc j) new ne = refl
read_other (x ∷ xs) (suc i) zero new ne = refl
read_other (x ∷ xs) (suc i) (suc j) new ne = read_other xs i j new (λ e. ne (ap suc e))

-- what holds of each element holds of the one at a place
pub all_at : {X : Type 0} (P : X → Type 0) (xs : List X) (i : ℕ) (x : X) → AllByRecursion P xs → slice_get xs i ≡ Some x → P x
all_at P [] i x p at = absurd (cc)
all_at P (y ∷ xs) zero x p at = let e : y ≡ x = cc in subst P e p.0
all_at P (y ∷ xs) (suc i) x p at = all_at P xs i x p.1 at

-- what follows from two facts on each element
pub all_both : {X : Type 0} (P Q R : X → Type 0) (xs : List X) → ((x : X) → P x → Q x → R x) → AllByRecursion P xs → AllByRecursion Q xs → AllByRecursion R xs
all_both P Q R [] f p q = tt
all_both P Q R (x ∷ xs) f p q = (f x p.0 q.0, all_both P Q R xs f p.1 q.1)

-- what holds at each place holds of each element
pub all_from_places : {X : Type 0} (P : X → Type 0) (xs : List X) → ((i : ℕ) (x : X) → slice_get xs i ≡ Some x → P x) → AllByRecursion P xs
all_from_places P [] f = tt
all_from_places P (x ∷ xs) f = (f 0 x refl, all_from_places P xs (λ i y at. f (suc i) y at))
