-- Lists in which nothing comes twice, and elements that a key tells apart.
use Rattle.std.proofs.Common.{◌≡◌, ◌≢◌, ℕ, zero, suc, ◌==◌, Bool, true, false, not, cond, None, Some, List, [], ◌∷◌, ◌++◌, map, refl, sym, ap, subst, ◌∙◌, slice_get, slice_set, remove}
use Rattle.std.specs.List.{AllByRecursion, filter, find}
use Rattle.std.proofs.lemmas.Bool.{eq-eqb, eqb-false, eqb-true}
use Rattle.sdp.proofs.Goods.{push_all, left_all, right_all}
use Rattle.mounts.specs.Different.{AreDifferent}
use Rattle.mounts.proofs.Firsts.{find_none_fails}

pub different_push : {X : Type 0} (xs : List X) (x : X) → AreDifferent xs → AllByRecursion (λ y. y ≢ x) xs → AreDifferent (xs ++ x ∷ [])
different_push [] x d n = (tt, tt)
different_push (a ∷ xs) x d n = (push_all (λ y. y ≢ a) xs x d.0 (λ e. n.0 (sym e)), different_push xs x d.1 n.1)

pub different_front : {X : Type 0} (xs : List X) (x : X) → AreDifferent (xs ++ x ∷ []) → AreDifferent xs
different_front [] x d = tt
different_front (a ∷ xs) x d = (left_all (λ y. y ≢ a) xs (x ∷ []) d.0, different_front xs x d.1)

pub different_last : {X : Type 0} (xs : List X) (x : X) → AreDifferent (xs ++ x ∷ []) → AllByRecursion (λ y. y ≢ x) xs
different_last [] x d = tt
different_last (a ∷ xs) x d = ((λ e. (right_all (λ y. y ≢ a) xs (x ∷ []) d.0).0 (sym e)), different_last xs x d.1)

-- two numbers that differ
pub unequal : (a b : ℕ) → a ≢ b → (a == b) ≡ false
unequal a b ne = by (a == b) (λ e. ne (eqb-true a b e))
  where
    by : (v : Bool) → (v ≡ true → ⊥) → v ≡ false
    by true f = absurd (f refl)
    by false f = refl

module _ {X A : Type 0} (key : X → A) where
  -- what holds of each key holds of those that a test keeps
  pub filter_all : (P : A → Type 0) (p : X → Bool) (xs : List X) → AllByRecursion P (map key xs) → AllByRecursion P (map key (filter p xs))
  filter_all P p [] h = tt
  filter_all P p (x ∷ xs) h = by (p x) (filter_all P p xs h.1)
    where
      by : (v : Bool) → AllByRecursion P (map key (filter p xs)) → AllByRecursion P (map key (cond v (x ∷ filter p xs) (filter p xs)))
      by true rest = (h.0, rest)
      by false rest = rest

  -- elements with different keys stay so
  pub different_filter : (p : X → Bool) (xs : List X) → AreDifferent (map key xs) → AreDifferent (map key (filter p xs))
  different_filter p [] d = tt
  different_filter p (x ∷ xs) d = by (p x) (different_filter p xs d.1)
    where
      by : (v : Bool) → AreDifferent (map key (filter p xs)) → AreDifferent (map key (cond v (x ∷ filter p xs) (filter p xs)))
      by true rest = (filter_all (λ k. k ≢ key x) p xs d.0, rest)
      by false rest = rest

  -- a change that leaves the keys alone
  pub same_keys : (f : X → X) → ((x : X) → key (f x) ≡ key x) → (xs : List X) → map key (map f xs) ≡ map key xs
  same_keys f h [] = refl
  same_keys f h (x ∷ xs) = ap (λ k. k ∷ map key (map f xs)) (h x) ∙ ap (λ ks. key x ∷ ks) (same_keys f h xs)

  -- the key at a place is among the keys
  pub key_at : (P : A → Type 0) (xs : List X) (i : ℕ) (x : X) → AllByRecursion P (map key xs) → slice_get xs i ≡ Some x → P (key x)
  key_at P [] i x h at = absurd (cc)
  key_at P (y ∷ xs) zero x h at = let e : y ≡ x = cc in subst (λ z. P (key z)) e h.0
  key_at P (y ∷ xs) (suc i) x h at = key_at P xs i x h.1 at

  -- elements with one key stand at one place
  pub one_place : (xs : List X) (i j : ℕ) (x y : X) → AreDifferent (map key xs) → slice_get xs i ≡ Some x → slice_get xs j ≡ Some y → key x ≡ key y → i ≡ j
  one_place [] i j x y d at there e = absurd (cc)
  one_place (z ∷ xs) zero zero x y d at there e = refl
  one_place (z ∷ xs) zero (suc j) x y d at there e = let same : z ≡ x = cc in absurd (key_at (λ k. k ≢ key z) xs j y d.0 there (sym e ∙ ap key (sym same)))
  one_place (z ∷ xs) (suc i) zero x y d at there e = let same : z ≡ y = cc in absurd (key_at (λ k. k ≢ key z) xs i x d.0 at (e ∙ ap key (sym same)))
  one_place (z ∷ xs) (suc i) (suc j) x y d at there e = ap suc (one_place xs i j x y d.1 at there e)

  -- an element that a test tells from those with other keys is the first that passes
  pub find_one : (p : X → Bool) (xs : List X) (i : ℕ) (x : X) → AreDifferent (map key xs) → slice_get xs i ≡ Some x → p x ≡ true → ((y : X) → key y ≢ key x → p y ≡ false)
      → find p xs ≡ Some x
  find_one p [] i x d at passes other = absurd (cc)
  find_one p (y ∷ xs) zero x d at passes other = let same : y ≡ x = cc in ap (λ v. cond v (Some y) (find p xs)) (ap p same ∙ passes) ∙ ap Some same
  find_one p (y ∷ xs) (suc i) x d at passes other =
      let apart = key_at (λ k. k ≢ key y) xs i x d.0 at in
      ap (λ v. cond v (Some y) (find p xs)) (other y (λ e. apart (sym e))) ∙ find_one p xs i x d.1 at passes other

module _ {X : Type 0} (key : X → ℕ) where
  -- where no element has the key, nothing is changed and nothing goes
  pub change_none : (f : X → X) (n : ℕ) (xs : List X) → AllByRecursion (λ k. k ≢ n) (map key xs) → map (λ y. cond (key y == n) (f y) y) xs ≡ xs
  change_none f n [] h = refl
  change_none f n (x ∷ xs) h =
      ap (λ v. cond v (f x) x ∷ map (λ y. cond (key y == n) (f y) y) xs) (unequal (key x) n h.0) ∙ ap (λ ys. x ∷ ys) (change_none f n xs h.1)

  pub filter_none : (n : ℕ) (xs : List X) → AllByRecursion (λ k. k ≢ n) (map key xs) → filter (λ y. not (key y == n)) xs ≡ xs
  filter_none n [] h = refl
  filter_none n (x ∷ xs) h =
      ap (λ v. cond (not v) (x ∷ filter (λ y. not (key y == n)) xs) (filter (λ y. not (key y == n)) xs)) (unequal (key x) n h.0)
      ∙ ap (λ ys. x ∷ ys) (filter_none n xs h.1)

  -- where none is found, no element has the key
  pub none_has : (n : ℕ) (xs : List X) → find (λ y. key y == n) xs ≡ None → AllByRecursion (λ k. k ≢ n) (map key xs)
  none_has n [] none = tt
  none_has n (x ∷ xs) none =
      let first = find_none_fails (λ y. key y == n) x xs none in
      (eqb-false (key x) n first.0, none_has n xs first.1)

  -- writing the place of an element is changing each element of its key
  pub set_is_change : (f : X → X) (xs : List X) (i : ℕ) (x : X) (n : ℕ) → AreDifferent (map key xs) → slice_get xs i ≡ Some x → key x ≡ n
      → slice_set xs i (f x) ≡ map (λ y. cond (key y == n) (f y) y) xs
  set_is_change f [] i x n d at is = absurd (cc)
  set_is_change f (y ∷ xs) zero x n d at is =
      let same : y ≡ x = cc in
      let mine : key y ≡ n = ap key same ∙ is in
      sym (ap (λ v. cond v (f y) y ∷ map (λ z. cond (key z == n) (f z) z) xs) (eq-eqb (key y) n mine)
      ∙ ap (λ ys. f y ∷ ys) (change_none f n xs (subst (λ m. AllByRecursion (λ k. k ≢ m) (map key xs)) mine d.0))
      ∙ ap (λ z. f z ∷ xs) same)
  set_is_change f (y ∷ xs) (suc i) x n d at is =
      let other : n ≢ key y = subst (λ m. m ≢ key y) is (key_at key (λ k. k ≢ key y) xs i x d.0 at) in
      ap (λ ys. y ∷ ys) (set_is_change f xs i x n d.1 at is)
      ∙ sym (ap (λ v. cond v (f y) y ∷ map (λ z. cond (key z == n) (f z) z) xs) (unequal (key y) n (λ e. other (sym e))))

  -- taking the place of an element out is taking out each element of its key
  pub remove_is_filter : (xs : List X) (i : ℕ) (x : X) (n : ℕ) → AreDifferent (map key xs) → slice_get xs i ≡ Some x → key x ≡ n
      → remove xs i ≡ filter (λ y. not (key y == n)) xs
  remove_is_filter [] i x n d at is = absurd (cc)
  remove_is_filter (y ∷ xs) zero x n d at is =
      let same : y ≡ x = cc in
      let mine : key y ≡ n = ap key same ∙ is in
      sym (ap (λ v. cond (not v) (y ∷ filter (λ z. not (key z == n)) xs) (filter (λ z. not (key z == n)) xs)) (eq-eqb (key y) n mine)
      ∙ filter_none n xs (subst (λ m. AllByRecursion (λ k. k ≢ m) (map key xs)) mine d.0))
  remove_is_filter (y ∷ xs) (suc i) x n d at is =
      let other : n ≢ key y = subst (λ m. m ≢ key y) is (key_at key (λ k. k ≢ key y) xs i x d.0 at) in
      ap (λ ys. y ∷ ys) (remove_is_filter xs i x n d.1 at is)
      ∙ sym (ap (λ v. cond (not v) (y ∷ filter (λ z. not (key z == n)) xs) (filter (λ z. not (key z == n)) xs)) (unequal (key y) n (λ e. other (sym e))))
