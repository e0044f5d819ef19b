-- Two lists of the mounts that live are of one length.
use Rattle.std.proofs.Common.{◌≡◌, ◌≢◌, ℕ, suc, ◌+◌, ◌≤◌, ◌==◌, Bool, true, false, not, cond, List, [], ◌∷◌, length, map, is_some, Some, refl, ap, sym, ◌∙◌, arith}
use Rattle.std.specs.List.{AllByRecursion, filter}
use Rattle.std.proofs.lemmas.Bool.{eqb-true}
use Rattle.mounts.specs.declared.mount.Mount.{Mount}
use Rattle.mounts.specs.Different.{AreDifferent}
use Rattle.mounts.specs.Mounts.{numbered}
use Rattle.mounts.proofs.Differing.{unequal}
use Rattle.session_state.specs.History.{History}
use Rattle.session_state.specs.Streams.{AreLive, IsLiveMount}

-- the mounts of other numbers
abbrev without : ℕ → List Mount → List Mount
without number mounts = filter (λ mount. not (mount.number == number)) mounts

-- a list has a mount of this number
abbrev Has : List Mount → ℕ → Type 0
Has mounts number = is_some (numbered number mounts) ≡ true

no_more : (number : ℕ) (mounts : List Mount) → length (without number mounts) ≤ length mounts
no_more number [] = omega arith
no_more number (mount ∷ mounts) = by (mount.number == number) (no_more number mounts)
  where
    by : (gone : Bool) → length (without number mounts) ≤ length mounts → length (cond (not gone) (mount ∷ without number mounts) (without number mounts)) ≤ suc (length mounts)
    by true few = omega (arith, few)
    by false few = omega (arith, few)

fewer_without : (number : ℕ) (mounts : List Mount) → Has mounts number → length (without number mounts) + 1 ≤ length mounts
fewer_without number [] has = absurd (cc)
fewer_without number (mount ∷ mounts) has = by (mount.number == number) has (fewer_without number mounts)
  where
    by : (gone : Bool) → is_some (cond gone (Some mount) (numbered number mounts)) ≡ true → (Has mounts number → length (without number mounts) + 1 ≤ length mounts)
        → length (cond (not gone) (mount ∷ without number mounts) (without number mounts)) + 1 ≤ suc (length mounts)
    by true has later = let few = no_more number mounts in omega (arith, few)
    by false has later = let few = later has in omega (arith, few)

found_without : (number gone : ℕ) → (number ≢ gone) → (mounts : List Mount) → numbered number (without gone mounts) ≡ numbered number mounts
found_without number gone differ [] = refl
found_without number gone differ (mount ∷ mounts) = by (mount.number == gone) refl (found_without number gone differ mounts)
  where
    by : (is : Bool) → (mount.number == gone) ≡ is → numbered number (without gone mounts) ≡ numbered number mounts
        → numbered number (cond (not is) (mount ∷ without gone mounts) (without gone mounts)) ≡ cond (mount.number == number) (Some mount) (numbered number mounts)
    by true is later =
        let other = unequal mount.number number (λ same. differ (sym same ∙ eqb-true mount.number gone is)) in
        later ∙ sym (ap (λ b. cond b (Some mount) (numbered number mounts)) other)
    by false is later = ap (λ found. cond (mount.number == number) (Some mount) found) later

still_has : (gone : ℕ) (mounts others : List Mount) → AllByRecursion (λ number. number ≢ gone) (map (λ mount. mount.number) mounts) → AllByRecursion (λ mount. Has others mount.number) mounts
    → AllByRecursion (λ mount. Has (without gone others) mount.number) mounts
still_has gone [] others differ has = tt
still_has gone (mount ∷ mounts) others differ has = (ap is_some (found_without mount.number gone differ.0 others) ∙ has.0, still_has gone mounts others differ.1 has.1)

no_longer : (mounts others : List Mount) → AreDifferent (map (λ mount. mount.number) mounts) → AllByRecursion (λ mount. Has others mount.number) mounts → length mounts ≤ length others
no_longer [] others once has = omega arith
no_longer (mount ∷ mounts) others once has =
    let rest = no_longer mounts (without mount.number others) once.1 (still_has mount.number mounts others once.0 has.1) in
    let few = fewer_without mount.number others has.0 in
    omega (arith, rest, few)

module _ (seats : ℕ) (history : History) where
  all_there : (mounts others : List Mount) → AllByRecursion (IsLiveMount seats history) mounts → AreLive seats history others → AllByRecursion (λ mount. Has others mount.number) mounts
  all_there [] others each also = tt
  all_there (mount ∷ mounts) others each also = let found = also.all mount.number mount.owner each.0.live in (ap is_some found.1, all_there mounts others each.1 also)

  pub same_count : (mounts others : List Mount) → AreLive seats history mounts → AreLive seats history others → length mounts ≡ length others
  same_count mounts others are also =
      let few = no_longer mounts others are.once (all_there mounts others are.each also) in
      let back = no_longer others mounts also.once (all_there others mounts also.each are) in
      omega (arith, few, back)
