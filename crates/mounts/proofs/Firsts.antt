-- The first element that passes a test, and its place.
use Rattle.std.proofs.Common.{◌≡◌, ℕ, ◌+◌, ◌<◌, Bool, true, false, not, cond, nat_lt, Some, None, List, [], ◌∷◌, length, map, refl, sym, ap, subst, ◌∙◌, slice_get, position}
use Rattle.std.specs.List.{AllByRecursion, find, position_or_len}
use Rattle.std.proofs.lemmas.Bool.{ltb-true, ltb-false}
use Rattle.std.proofs.lemmas.List.{length-map}
use Rattle.std.proofs.lemmas.List.Folds.{find_at}
use Rattle.std.proofs.lemmas.Option.{cond_some, slice_get_past}
use Rattle.mounts.proofs.Places.{all_at}

-- the element at the first place is the first element
pub find_at_position : {X : Type 0} (p : X → Bool) (xs : List X) (i : ℕ) → position p xs ≡ Some i → find p xs ≡ slice_get xs i
find_at_position p xs i at = find_at p xs ∙ ap (slice_get xs) (cond_some (nat_lt (position_or_len p xs) (length xs)) (position_or_len p xs) i at).1

pub position_within : {X : Type 0} (p : X → Bool) (xs : List X) (i : ℕ) → position p xs ≡ Some i → i < length xs
position_within p xs i at =
    let both = cond_some (nat_lt (position_or_len p xs) (length xs)) (position_or_len p xs) i at in
    subst (λ k. k < length xs) both.1 (ltb-true (position_or_len p xs) (length xs) both.0)

pub find_without_position : {X : Type 0} (p : X → Bool) (xs : List X) → position p xs ≡ None → find p xs ≡ None
find_without_position p xs none =
    find_at p xs ∙ slice_get_past xs (position_or_len p xs) (ltb-false (position_or_len p xs) (length xs) (by (nat_lt (position_or_len p xs) (length xs)) none))
  where
    by : (v : Bool) → cond v (Some (position_or_len p xs)) None ≡ None → v ≡ false
    by true e = absurd (cc)
    by false e = refl

-- the first element passes
pub found_passes : {X : Type 0} (p : X → Bool) (xs : List X) (x : X) → find p xs ≡ Some x → p x ≡ true
found_passes p [] x e = absurd (cc)
found_passes p (y ∷ xs) x e = by (p y) refl e (found_passes p xs x)
  where
    by : (v : Bool) → p y ≡ v → cond v (Some y) (find p xs) ≡ Some x → (find p xs ≡ Some x → p x ≡ true) → p x ≡ true
    by true is at later = let same : y ≡ x = cc in ap p (sym same) ∙ is
    by false is at later = later at

-- what holds of each element holds of the first that passes
pub found_all : {X : Type 0} (P : X → Type 0) (p : X → Bool) (xs : List X) (x : X) → AllByRecursion P xs → find p xs ≡ Some x → P x
found_all P p xs x all e = all_at P xs (position_or_len p xs) x all (sym (find_at p xs) ∙ e)

-- where none is found, none passes
pub find_none_fails : {X : Type 0} (p : X → Bool) (y : X) (xs : List X) → find p (y ∷ xs) ≡ None → (p y ≡ false) × (find p xs ≡ None)
find_none_fails p y xs e = by (p y) refl e
  where
    by : (v : Bool) → p y ≡ v → cond v (Some y) (find p xs) ≡ None → (p y ≡ false) × (find p xs ≡ None)
    by true is at = absurd (cc)
    by false is at = (is, at)

position_or_len-map : {X Z : Type 0} (f : X → Z) (p : Z → Bool) (xs : List X) → position_or_len p (map f xs) ≡ position_or_len (λ x. p (f x)) xs
position_or_len-map f p [] = refl
position_or_len-map f p (x ∷ xs) = ap (λ n. cond (not (p (f x))) (1 + n) 0) (position_or_len-map f p xs)

position-map : {X Z : Type 0} (f : X → Z) (p : Z → Bool) (xs : List X) → position p (map f xs) ≡ position (λ x. p (f x)) xs
position-map f p xs =
    ap (λ n. cond (nat_lt n (length (map f xs))) (Some n) None) (position_or_len-map f p xs)
    ∙ ap (λ n. cond (nat_lt (position_or_len (λ x. p (f x)) xs) n) (Some (position_or_len (λ x. p (f x)) xs)) None) (length-map xs f)

-- a test that sees no more than two lists share finds the same place in both
pub same_position : {X Y Z : Type 0} (f : X → Z) (g : Y → Z) (p : Z → Bool) (xs : List X) (ys : List Y) → map f xs ≡ map g ys
    → position (λ x. p (f x)) xs ≡ position (λ y. p (g y)) ys
same_position f g p xs ys e = sym (position-map f p xs) ∙ ap (position p) e ∙ position-map g p ys
