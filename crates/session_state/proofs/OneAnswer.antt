-- What a legal history tells of its mounts has one answer, in whatever order they are listed.
use Rattle.std.proofs.Common.{◌≡◌, ℕ, ◌==◌, ◌≤◌, Bool, true, false, cond, List, [], ◌∷◌, length, Some, refl, ap, sym, subst, ◌∙◌}
use Rattle.std.specs.List.{find}
use Rattle.std.specs.Str.{bytes_eq}
use Rattle.std.specs.Cmp.Lexicographic.{bytes_decides}
use Rattle.std.proofs.lemmas.Bool.{eqb-true, eq-eqb}
use Rattle.mounts.specs.declared.mount.Mount.{Mount}
use Rattle.mounts.specs.Mounts.{named, numbered, owned_by}
use Rattle.mounts.proofs.Firsts.{found_all, found_passes}
use Rattle.session_state.specs.Methods.{is_announce}
use Rattle.session_state.specs.History.{History, IsNth, accepts}
use Rattle.session_state.specs.Legal.{IsLegal}
use Rattle.session_state.specs.Streams.{AreLive, IsLive, IsLiveMount}
use Rattle.session_state.proofs.Namesakes.{HasName, one_announcement, one_of_a_name}
use Rattle.session_state.proofs.Nth.{one_nth}
use Rattle.session_state.proofs.Owners.{owns_one}

-- Two tell of one mount.
pub record AreOne (one other : Mount) : Type 0 where
  pub number : one.number ≡ other.number
  pub owner : one.owner ≡ other.owner
  pub name : one.name ≡ other.name
  pub description : one.description ≡ other.description

-- where one element passes a test, one is found by it
find_some : {X : Type 0} (p q : X → Bool) (xs : List X) (x : X) → find q xs ≡ Some x → p x ≡ true → (y : X) × (find p xs ≡ Some y)
find_some {X = X} p q [] x at is = absurd (cc)
find_some {X = X} p q (y ∷ xs) x at is = by (p y) refl (q y) at (λ later. find_some p q xs x later is)
  where
    by : (v : Bool) → p y ≡ v → (w : Bool) → cond w (Some y) (find q xs) ≡ Some x → (find q xs ≡ Some x → (z : X) × (find p xs ≡ Some z)) → (z : X) × (cond v (Some y) (find p xs) ≡ Some z)
    by true passes w at later = (y, refl)
    by false fails true at later = let same : y ≡ x = cc in let here = ap p same in absurd (cc)
    by false fails false at later = later at

module _ (seats : ℕ) (history : History) (legal : IsLegal seats history) where
  pub one_live : (one other : Mount) → IsLiveMount seats history one → IsLiveMount seats history other → one.number ≡ other.number → AreOne one other
  one_live one other a b same =
      let nth = subst (λ n. IsNth (accepts is_announce) n history b.live.later b.live.moment) (sym same) b.live.nth in
      let moment = one_nth (accepts is_announce) one.number history a.live.later b.live.later a.live.moment b.live.moment a.live.nth nth in
      let say = one_announcement a.live.moment.entry b.live.moment.entry one.owner other.owner one.name other.name one.description other.description moment.entry a.announced b.announced in
      record { number = same; owner = say.owner_is; name = say.name_is; description = say.description_is }

  -- what one list finds by a test that at most one mount passes, another finds
  one_found : (p : Mount → Bool) → ((a b : Mount) → AreOne a b → p a ≡ true → p b ≡ true)
      → ((a b : Mount) → IsLiveMount seats history a → IsLiveMount seats history b → p a ≡ true → p b ≡ true → a.number ≡ b.number)
      → (mounts others : List Mount) (one : Mount) → AreLive seats history mounts → AreLive seats history others → find p mounts ≡ Some one → (other : Mount) × (find p others ≡ Some other) × AreOne one other
  one_found p kept apart mounts others one are also at =
      let lives = found_all (IsLiveMount seats history) p mounts one are.each at in
      let there = also.all one.number one.owner lives.live in
      let second = found_all (IsLiveMount seats history) (λ mount. mount.number == one.number) others there.0 also.each there.1 in
      let number = eqb-true there.0.number one.number (found_passes (λ mount. mount.number == one.number) others there.0 there.1) in
      let passes = found_passes p mounts one at in
      let some = find_some p (λ mount. mount.number == one.number) others there.0 there.1 (kept one there.0 (one_live one there.0 lives second (sym number)) passes) in
      let third = found_all (IsLiveMount seats history) p others some.0 also.each some.1 in
      (some.0, some.1, one_live one some.0 lives third (apart one some.0 lives third passes (found_passes p others some.0 some.1)))

  pub one_numbered : (number : ℕ) (mounts others : List Mount) (one : Mount) → AreLive seats history mounts → AreLive seats history others → numbered number mounts ≡ Some one
      → (other : Mount) × (numbered number others ≡ Some other) × AreOne one other
  one_numbered number = one_found (λ mount. mount.number == number)
      (λ a b same is. eq-eqb b.number number (sym same.number ∙ eqb-true a.number number is))
      (λ a b x y is also. eqb-true a.number number is ∙ sym (eqb-true b.number number also))

  pub one_named : (name : List ℕ) (mounts others : List Mount) (one : Mount) → AreLive seats history mounts → AreLive seats history others → named name mounts ≡ Some one
      → (other : Mount) × (named name others ≡ Some other) × AreOne one other
  one_named name = one_found (λ mount. bytes_eq name mount.name)
      (λ a b same is. (bytes_decides name b.name).1 ((bytes_decides name a.name).0 is ∙ same.name))
      (λ a b x y is also. let second : a.name ≡ b.name = sym ((bytes_decides name a.name).0 is) ∙ (bytes_decides name b.name).0 also in
      one_of_a_name seats history a.owner b.owner a.number b.number a.name legal (record { live = x.live; description = a.description; announced = x.announced })
      (subst (λ n. HasName history b.number b.owner n) (sym second) (record { live = y.live; description = b.description; announced = y.announced })))

  pub one_owned : (owner : ℕ) (mounts others : List Mount) (one : Mount) → AreLive seats history mounts → AreLive seats history others → owned_by owner mounts ≡ Some one
      → (other : Mount) × (owned_by owner others ≡ Some other) × AreOne one other
  one_owned owner = one_found (λ mount. mount.owner == owner)
      (λ a b same is. eq-eqb b.owner owner (sym same.owner ∙ eqb-true a.owner owner is))
      (λ a b x y is also. owns_one seats history owner a.number b.number legal
      (subst (λ o. IsLive history a.number o) (eqb-true a.owner owner is) x.live) (subst (λ o. IsLive history b.number o) (eqb-true b.owner owner also) y.live))

  pub few_tracks : (mount : Mount) → IsLiveMount seats history mount → length mount.description.tracks ≤ 16
  few_tracks mount lives = lives.announced.body.good.few
