-- Elements by their places, where a key tells them apart.
use Rattle.std.proofs.Common.{◌≡◌, ℕ, ◌<◌, ◌==◌, None, Some, List, length, refl, ap, sym, ◌∙◌, get_or, slice_get, position}
use Rattle.std.specs.List.{find}
use Rattle.std.proofs.lemmas.Bool.{eqb-true}
use Rattle.std.proofs.lemmas.Option.{slice_get_read}
use Rattle.mounts.proofs.Firsts.{find_at_position, find_without_position, found_passes, position_within}
use Rattle.mounts.proofs.Indexed.{some_at}

module _ {X : Type 0} (key : X → ℕ) where
  -- The place of the first element of a key.
  pub record IsPlaceOf (xs : List X) (n place : ℕ) : Type 0 where
    pub one : X
    pub there : slice_get xs place ≡ Some one
    pub key_is : key one ≡ n
    pub found : find (λ y. key y == n) xs ≡ Some one
    pub within : place < length xs

  at_place : (xs : List X) (n place : ℕ) → position (λ y. key y == n) xs ≡ Some place → IsPlaceOf xs n place
  at_place xs n place at =
      let within = position_within (λ y. key y == n) xs place at in
      let one = some_at xs place within in
      let found = find_at_position (λ y. key y == n) xs place at ∙ one.1 in
      record {
        one = one.0;
        there = one.1;
        key_is = eqb-true (key one.0) n (found_passes (λ y. key y == n) xs one.0 found);
        found = found;
        within = within;
      }

  pub place_of : (shown xs : List X) (n place : ℕ) → Some place ≡ position (λ y. key y == n) shown → shown ≡ xs → IsPlaceOf xs n place
  place_of shown xs n place at same = at_place xs n place (sym (at ∙ ap (position (λ y. key y == n)) same))

  pub no_place : (shown xs : List X) (n : ℕ) → None ≡ position (λ y. key y == n) shown → shown ≡ xs → find (λ y. key y == n) xs ≡ None
  no_place shown xs n none same = find_without_position (λ y. key y == n) xs (sym (none ∙ ap (position (λ y. key y == n)) same))

  -- The element that was read there.
  pub record IsReadOf (xs : List X) (n place : ℕ) (one : X) : Type 0 where
    pub there : slice_get xs place ≡ Some one
    pub key_is : key one ≡ n
    pub found : find (λ y. key y == n) xs ≡ Some one
    pub within : place < length xs
    pub read : one ≡ get_or xs place one

  pub read_of : (xs : List X) (n place : ℕ) (one : X) → IsPlaceOf xs n place → one ≡ get_or xs place one → IsReadOf xs n place one
  read_of xs n place one at read =
      let there : slice_get xs place ≡ Some one = slice_get_read xs (length xs) place one refl at.within read in
      let same : Some at.one ≡ Some one = sym at.there ∙ there in
      record { there = there; key_is = key_same at.one one same ∙ at.key_is; found = at.found ∙ same; within = at.within; read = read }
    where
      key_same : (a b : X) → Some a ≡ Some b → key b ≡ key a
      key_same a b e = let same : b ≡ a = cc in ap key same
