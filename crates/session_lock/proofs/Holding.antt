-- What the changes of the spare passes leave.
use Rattle.std.proofs.Common.{◌≡◌, ℕ, zero, suc, ◌+◌, ◌-◌, ◌<◌, ◌≤◌, ◌==◌, true, cond, not, None, Some, is_none, is_some, Option, List, [], ◌∷◌, ◌++◌, length, map, remove, refl, ap, sym, subst, ◌∙◌, arith, get_or, slice_get, slice_set}
use Rattle.std.specs.List.{count_by}
use Rattle.std.specs.Option.{option_and_then}
use Rattle.std.proofs.lemmas.List.{map-append}
use Rattle.std.proofs.lemmas.List.Sums.{get_or-le-sum_by, sum_by-remove, sum_by-set, sum_by_push}
use Rattle.mounts.specs.Different.{AreDifferent}
use Rattle.mounts.proofs.Differing.{change_none, different_filter, different_push, filter_none, none_has, remove_is_filter, set_is_change}
use Rattle.mounts.proofs.Indexed.{map-set_same}
use Rattle.session_lock.specs.declared.spares.MountPasses.{MountPasses}
use Rattle.session_lock.specs.Held.{IsHeld, IsOutOf}
use Rattle.session_lock.specs.Spares.{of_number, of_owner, out_count, out_of, pass_at, with_pass, with_place, without}
use Rattle.session_lock.proofs.Places.{IsPlaceOf, IsReadOf}

module _ {P : Type 0} where
  -- one mount more, none of whose seats is out
  pub begun : (mounts : List (MountPasses P)) (out : ℕ) (one : MountPasses P) → IsHeld mounts out → of_number one.number mounts ≡ None → of_owner one.owner mounts ≡ None → out_of one ≡ 0
      → IsHeld (mounts ++ one ∷ []) out
  begun mounts out one held number owner free = record {
    numbers = subst AreDifferent (sym (map-append (λ (m : MountPasses P). m.number) mounts (one ∷ [])))
        (different_push (map (λ m. m.number) mounts) one.number held.numbers (none_has (λ (m : MountPasses P). m.number) one.number mounts number));
    owners = subst AreDifferent (sym (map-append (λ (m : MountPasses P). m.owner) mounts (one ∷ [])))
        (different_push (map (λ m. m.owner) mounts) one.owner held.owners (none_has (λ (m : MountPasses P). m.owner) one.owner mounts owner));
    out_is = let is = held.out_is in let more = sum_by_push out_of mounts one in omega (arith, is, more, free);
  }

  -- without the mount of an owner
  pub removed : (mounts : List (MountPasses P)) (out owner place : ℕ) → IsHeld mounts out → IsPlaceOf (λ (m : MountPasses P). m.owner) mounts owner place → remove mounts place ≡ without owner mounts
  removed mounts out owner place held at = remove_is_filter (λ (m : MountPasses P). m.owner) mounts place at.one owner held.owners at.there at.key_is

  pub ended : (mounts left : List (MountPasses P)) (out gone owner place : ℕ) (one : MountPasses P) → IsHeld mounts out → IsReadOf (λ (m : MountPasses P). m.owner) mounts owner place one
      → left ≡ remove mounts place → left ≡ without owner mounts → gone ≡ out_of one → IsHeld left (out - gone)
  ended mounts left out gone owner place one held at is filtered counted = record {
    numbers = subst (λ ms. AreDifferent (map (λ (m : MountPasses P). m.number) ms)) (sym filtered) (different_filter (λ m. m.number) (λ m. not (m.owner == owner)) mounts held.numbers);
    owners = subst (λ ms. AreDifferent (map (λ (m : MountPasses P). m.owner) ms)) (sym filtered) (different_filter (λ m. m.owner) (λ m. not (m.owner == owner)) mounts held.owners);
    out_is =
        let all = held.out_is in
        let sum = sum_by-remove out_of mounts place one at.within in
        let read = ap out_of at.read in
        let rest = ap out_count is in
        omega (arith, all, sum, read, rest, counted);
  }

  -- who owns no mount leaves all
  pub without_none : (mounts : List (MountPasses P)) (owner : ℕ) → of_owner owner mounts ≡ None → mounts ≡ without owner mounts
  without_none mounts owner none = sym (filter_none (λ (m : MountPasses P). m.owner) owner mounts (none_has (λ (m : MountPasses P). m.owner) owner mounts none))

  -- a mount with other passes
  abbrev pub with_passes : MountPasses P → List (Option P) → MountPasses P
  with_passes one passes = record { number = one.number; owner = one.owner; passes = passes }

  pub changed : (mounts : List (MountPasses P)) (out number place seat : ℕ) (pass : Option P) (one : MountPasses P) (passes : List (Option P)) → IsHeld mounts out
      → IsReadOf (λ (m : MountPasses P). m.number) mounts number place one → passes ≡ slice_set one.passes seat pass → slice_set mounts place (with_passes one passes) ≡ with_pass number seat pass mounts
  changed mounts out number place seat pass one passes held at is =
      ap (λ ps. slice_set mounts place (with_passes one ps)) is
      ∙ set_is_change (λ (m : MountPasses P). m.number) (with_place seat pass) mounts place one number held.numbers at.there at.key_is

  pub held_changed : (mounts : List (MountPasses P)) (out after number place : ℕ) (one : MountPasses P) (passes : List (Option P)) → IsHeld mounts out
      → IsReadOf (λ (m : MountPasses P). m.number) mounts number place one → after + out_of one ≡ out + count_by is_none passes → IsHeld (slice_set mounts place (with_passes one passes)) after
  held_changed mounts out after number place one passes held at counted = record {
    numbers = subst AreDifferent (sym (map-set_same (λ (m : MountPasses P). m.number) mounts place one (with_passes one passes) at.there refl)) held.numbers;
    owners = subst AreDifferent (sym (map-set_same (λ (m : MountPasses P). m.owner) mounts place one (with_passes one passes) at.there refl)) held.owners;
    out_is =
        let all = held.out_is in
        let sum = sum_by-set out_of mounts place (with_passes one passes) one at.within in
        let read = ap out_of at.read in
        omega (arith, all, sum, read, counted);
  }

  within : (passes : List (Option P)) (seat : ℕ) (pass : P) → get_or passes seat None ≡ Some pass → seat < length passes
  within [] seat pass is = absurd (cc)
  within (x ∷ passes) zero pass is = omega arith
  within (x ∷ passes) (suc seat) pass is = let so = within passes seat pass is in omega (arith, so)

  -- a seat whose pass is taken is out
  pub more_out : (passes : List (Option P)) (seat : ℕ) (pass : P) → get_or passes seat None ≡ Some pass → count_by is_none (slice_set passes seat None) ≡ count_by is_none passes + 1
  more_out passes seat pass is =
      let sum = sum_by-set (λ (p : Option P). cond (is_none p) 1 0) passes seat None None (within passes seat pass is) in
      let there = ap {B = ℕ} (λ (p : Option P). cond (is_none p) 1 0) is in
      omega (arith, sum, there)

  pub more_if_some : (passes : List (Option P)) (seat : ℕ) (pass : Option P) → pass ≡ get_or passes seat None → is_some pass ≡ true
      → count_by is_none (slice_set passes seat None) ≡ count_by is_none passes + 1
  more_if_some passes seat None is some = absurd (cc)
  more_if_some passes seat (Some pass) is some = more_out passes seat pass (sym is)

  -- where there is none, none is taken
  pub same_out : (passes : List (Option P)) (seat : ℕ) → get_or passes seat None ≡ None → slice_set passes seat None ≡ passes
  same_out [] seat is = refl
  same_out (x ∷ passes) zero is = ap (λ p. p ∷ passes) (sym is)
  same_out (x ∷ passes) (suc seat) is = ap (λ ps. x ∷ ps) (same_out passes seat is)

  pub read_none : (passes : List (Option P)) (seat : ℕ) → slice_get passes seat ≡ Some None → (seat < length passes) × (get_or passes seat None ≡ None)
  read_none [] seat is = absurd (cc)
  read_none (x ∷ passes) zero is = (omega arith, cc)
  read_none (x ∷ passes) (suc seat) is = let so = read_none passes seat is in (let few = so.0 in omega (arith, few), so.1)

  -- a seat whose pass is put back isn't out
  pub less_out : (passes : List (Option P)) (seat : ℕ) (pass : P) → slice_get passes seat ≡ Some None → count_by is_none (slice_set passes seat (Some pass)) + 1 ≡ count_by is_none passes
  less_out passes seat pass is =
      let read = read_none passes seat is in
      let sum = sum_by-set (λ (p : Option P). cond (is_none p) 1 0) passes seat (Some pass) None read.0 in
      let there = ap {B = ℕ} (λ (p : Option P). cond (is_none p) 1 0) read.1 in
      omega (arith, sum, there)

  -- the pass of a mount that was read
  pub pass_of : (mounts : List (MountPasses P)) (number place seat : ℕ) (one : MountPasses P) → IsReadOf (λ (m : MountPasses P). m.number) mounts number place one
      → get_or one.passes seat None ≡ pass_at number seat mounts
  pass_of mounts number place seat one at = sym (ap (option_and_then (λ (m : MountPasses P). get_or m.passes seat None)) at.found)

  pub no_pass : (mounts : List (MountPasses P)) (number seat : ℕ) → of_number number mounts ≡ None → None ≡ pass_at number seat mounts
  no_pass mounts number seat none = sym (ap (option_and_then (λ (m : MountPasses P). get_or m.passes seat None)) none)

  pub with_none : (mounts : List (MountPasses P)) (number seat : ℕ) (pass : Option P) → of_number number mounts ≡ None → mounts ≡ with_pass number seat pass mounts
  with_none mounts number seat pass none = sym (change_none (λ (m : MountPasses P). m.number) (with_place seat pass) number mounts (none_has (λ (m : MountPasses P). m.number) number mounts none))

  -- the seat of a mount that was read is out
  pub out_at : (mounts : List (MountPasses P)) (number place seat : ℕ) (one : MountPasses P) → IsReadOf (λ (m : MountPasses P). m.number) mounts number place one → IsOutOf mounts number seat
      → slice_get one.passes seat ≡ Some None
  out_at mounts number place seat one at out = by out.one one (sym out.there ∙ at.found) out.is
    where
      by : (a b : MountPasses P) → Some a ≡ Some b → slice_get a.passes seat ≡ Some None → slice_get b.passes seat ≡ Some None
      by a b e is = let same : a ≡ b = cc in subst (λ (m : MountPasses P). slice_get m.passes seat ≡ Some None) same is

  -- a seat that is out counts
  pub some_out : (mounts : List (MountPasses P)) (out number place seat : ℕ) (one : MountPasses P) (pass : P) → IsHeld mounts out → IsReadOf (λ (m : MountPasses P). m.number) mounts number place one
      → slice_get one.passes seat ≡ Some None → 1 ≤ out
  some_out mounts out number place seat one pass held at is =
      let all = held.out_is in
      let part = get_or-le-sum_by out_of mounts place one at.within in
      let read = ap out_of at.read in
      let less = less_out one.passes seat pass is in
      omega (arith, all, part, read, less)

  -- where each pass is there, none is out
  pub none_out : (offer : List P) → count_by is_none (map (λ pass. Some pass) offer) ≡ 0
  none_out [] = refl
  none_out (pass ∷ offer) = none_out offer
