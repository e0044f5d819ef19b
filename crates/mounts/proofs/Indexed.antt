-- The mounts by their places.
use Rattle.std.proofs.Common.{◌≡◌, ◌≢◌, ℕ, zero, suc, ◌<◌, ◌==◌, Bool, true, false, ◌||◌, cond, None, Some, List, [], ◌∷◌, ◌++◌, subst, Vec, Global, length, map, refl, sym, ap, ◌∙◌, arith, get_or, slice_get, slice_set, position, remove, vec_len}
use Rattle.std.specs.List.{AllByRecursion, AllZip, each_same, list_any}
use Rattle.std.specs.Str.{bytes_eq}
use Rattle.std.specs.Cmp.Lexicographic.{bytes_decides}
use Rattle.std.proofs.lemmas.Bool.{eqb-true}
use Rattle.std.proofs.lemmas.List.{map-append}
use Rattle.std.proofs.lemmas.Option.{slice_get_read}
use Rattle.mounts.specs.declared.mount.Mount.{Mount}
use Rattle.mounts.specs.Mounts.{named, numbered}
use Rattle.mounts.proofs.Sound.{names_apart}
use Rattle.mounts.proofs.Firsts.{find_at_position, find_without_position, found_passes, position_within, same_position}

pub some_at : {X : Type 0} (xs : List X) (i : ℕ) → i < length xs → (x : X) × (slice_get xs i ≡ Some x)
some_at [] i within = absurd (omega arith)
some_at (x ∷ xs) zero within = (x, refl)
some_at (x ∷ xs) (suc i) within = some_at xs i (omega arith)

-- the mount at the place of a number
pub record IsAt (mounts : List Mount) (number place : ℕ) : Type 0 where
  pub mount : Mount
  pub there : slice_get mounts place ≡ Some mount
  pub number_is : mount.number ≡ number
  pub live : numbered number mounts ≡ Some mount
  pub within : place < length mounts

number_at : (mounts : List Mount) (number place : ℕ) → position (λ m. m.number == number) mounts ≡ Some place → IsAt mounts number place
number_at mounts number place at =
    let within = position_within (λ m. m.number == number) mounts place at in
    let one = some_at mounts place within in
    let live = find_at_position (λ m. m.number == number) mounts place at ∙ one.1 in
    record {
      mount = one.0;
      there = one.1;
      number_is = eqb-true one.0.number number (found_passes (λ m. m.number == number) mounts one.0 live);
      live = live;
      within = within;
    }

-- the mounts by the places of their names
module _ (names : List (Vec ℕ Global)) (mounts : List Mount) (name : List ℕ) (same : map (λ key. key.items) names ≡ map (λ mount. mount.name) mounts) where
  places : position (λ key. bytes_eq name key.items) names ≡ position (λ mount. bytes_eq name mount.name) mounts
  places = same_position (λ key. key.items) (λ mount. mount.name) (bytes_eq name) names mounts same

  pub named_at : (place : ℕ) → Some place ≡ position (λ key. bytes_eq name key.items) names → (named name mounts ≡ slice_get mounts place) × (place < length mounts)
  named_at place at =
      (find_at_position (λ mount. bytes_eq name mount.name) mounts place (sym places ∙ sym at), position_within (λ mount. bytes_eq name mount.name) mounts place (sym places ∙ sym at))

  pub named_nowhere : None ≡ position (λ key. bytes_eq name key.items) names → named name mounts ≡ None
  named_nowhere none = find_without_position (λ mount. bytes_eq name mount.name) mounts (sym places ∙ sym none)

-- a field of a list without one place
pub map-remove : {X Y : Type 0} (f : X → Y) (xs : List X) (i : ℕ) → map f (remove xs i) ≡ remove (map f xs) i
map-remove f [] zero = refl
map-remove f [] (suc i) = refl
map-remove f (x ∷ xs) zero = refl
map-remove f (x ∷ xs) (suc i) = ap (λ ys. f x ∷ ys) (map-remove f xs i)

-- a field that a write leaves alone
pub map-set_same : {X Y : Type 0} (f : X → Y) (xs : List X) (i : ℕ) (x y : X) → slice_get xs i ≡ Some x → f y ≡ f x → map f (slice_set xs i y) ≡ map f xs
map-set_same f [] i x y at e = absurd (cc)
map-set_same f (z ∷ xs) zero x y at e = let same : z ≡ x = cc in ap (λ v. v ∷ map f xs) (e ∙ ap f (sym same))
map-set_same f (z ∷ xs) (suc i) x y at e = ap (λ ys. f z ∷ ys) (map-set_same f xs i x y at e)

-- a mount that was read at the place of a number
pub record IsReadAt (mounts : List Mount) (number place : ℕ) (mount : Mount) : Type 0 where
  pub there : slice_get mounts place ≡ Some mount
  pub number_is : mount.number ≡ number
  pub live : numbered number mounts ≡ Some mount

pub read_at : (mounts : List Mount) (number place : ℕ) (mount : Mount) → IsAt mounts number place → mount ≡ get_or mounts place mount → IsReadAt mounts number place mount
read_at mounts number place mount at read =
    let there : slice_get mounts place ≡ Some mount = slice_get_read mounts (length mounts) place mount refl at.within read in
    let same : Some at.mount ≡ Some mount = sym at.there ∙ there in
    record { there = there; number_is = number_same at.mount mount same ∙ at.number_is; live = at.live ∙ same }
  where
    number_same : (a b : Mount) → Some a ≡ Some b → b.number ≡ a.number
    number_same a b e = let same : b ≡ a = cc in ap (λ m. m.number) same

-- the same of the mounts as they are shown to a search
pub found_at : (shown mounts : List Mount) (number place : ℕ) → Some place ≡ position (λ m. m.number == number) shown → shown ≡ mounts → IsAt mounts number place
found_at shown mounts number place e same = number_at mounts number place (sym (e ∙ ap (position (λ m. m.number == number)) same))

pub found_nowhere : (shown mounts : List Mount) (number : ℕ) → None ≡ position (λ m. m.number == number) shown → shown ≡ mounts → position (λ m. m.number == number) mounts ≡ None
found_nowhere shown mounts number e same = sym (e ∙ ap (position (λ m. m.number == number)) same)

-- two texts that differ
pub unequal_bytes : (a b : List ℕ) → a ≢ b → bytes_eq a b ≡ false
unequal_bytes a b ne = by (bytes_eq a b) (λ e. ne ((bytes_decides a b).0 e))
  where
    by : (v : Bool) → (v ≡ true → ⊥) → v ≡ false
    by true f = absurd (f refl)
    by false f = refl

-- the names of one mount more
pub names_more : (keys more : List (Vec ℕ Global)) (key : Vec ℕ Global) (mounts : List Mount) (mount : Mount) → map (λ k. k.items) keys ≡ map (λ m. m.name) mounts
    → more ≡ cond (list_any (λ k. bytes_eq key.items k.items) keys) keys (keys ++ key ∷ []) → key.items ≡ mount.name → named mount.name mounts ≡ None
    → map (λ k. k.items) more ≡ map (λ m. m.name) (mounts ++ mount ∷ [])
names_more keys more key mounts mount same e is free =
    ap (map (λ k. k.items)) (e ∙ ap (λ b. cond b keys (keys ++ key ∷ [])) (not_there keys (subst (AllByRecursion (λ n. n ≢ key.items)) (sym same) apart)))
    ∙ map-append (λ k. k.items) keys (key ∷ []) ∙ ap (λ ns. ns ++ key.items ∷ []) same ∙ ap (λ n. map (λ m. m.name) mounts ++ n ∷ []) is
    ∙ sym (map-append (λ m. m.name) mounts (mount ∷ []))
  where
    apart : AllByRecursion (λ n. n ≢ key.items) (map (λ m. m.name) mounts)
    apart = subst (λ n. AllByRecursion (λ k. k ≢ n) (map (λ m. m.name) mounts)) (sym is) (names_apart mount.name mounts free)

    not_there : (ks : List (Vec ℕ Global)) → AllByRecursion (λ n. n ≢ key.items) (map (λ k. k.items) ks) → list_any (λ k. bytes_eq key.items k.items) ks ≡ false
    not_there [] h = refl
    not_there (k ∷ ks) h = ap (λ b. b || list_any (λ k. bytes_eq key.items k.items) ks) (unequal_bytes key.items k.items (λ e. h.0 (sym e))) ∙ not_there ks h.1

-- the names of a copy
pub names_copied : (names copied : List (Vec ℕ Global)) → AllZip (λ v w. AllZip (λ x y. y ≡ x) v.items w.items × (vec_len w ≡ vec_len v)) names copied → map (λ key. key.items) copied ≡ map (λ key. key.items) names
names_copied [] [] all = refl
names_copied [] (copy ∷ copied) all = absurd all
names_copied (name ∷ names) [] all = absurd all
names_copied (name ∷ names) (copy ∷ copied) all = ap (λ items. items ∷ map (λ key. key.items) copied) (each_same name.items copy.items all.0.0) ∙ ap (λ others. name.items ∷ others) (names_copied names copied all.1)
