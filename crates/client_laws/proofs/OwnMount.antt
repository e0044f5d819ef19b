-- The mount that a connection has announced, as the mounts that live are looked up.
use Rattle.std.proofs.Common.{◌≡◌, ℕ, ◌==◌, Bool, true, false, cond, List, [], ◌∷◌, Option, None, Some, refl, ap, sym, subst}
use Rattle.std.specs.List.{find}
use Rattle.std.specs.Str.{bytes_eq}
use Rattle.std.specs.Cmp.Lexicographic.{bytes_decides}
use Rattle.std.proofs.lemmas.Bool.{eqb-true, eq-eqb}
use Rattle.mounts.specs.declared.mount.Mount.{Mount}
use Rattle.mounts.specs.Mounts.{named, numbered, owned_by}
use Rattle.mounts.proofs.Firsts.{found_all, found_passes}
use Rattle.session_state.specs.Methods.{is_announce}
use Rattle.session_state.specs.History.{History, IsNth, accepts}
use Rattle.session_state.specs.Legal.{IsLegal}
use Rattle.session_state.specs.Streams.{AreLive, IsLive, IsLiveMount}
use Rattle.session_state.proofs.Namesakes.{one_announcement}
use Rattle.session_state.proofs.Nth.{one_nth}
use Rattle.session_state.proofs.Owners.{owns_one}
use Rattle.client_laws.specs.Phases.{IsMountOf, Owns}
use Rattle.client_laws.specs.Publishing.{Publication}

-- a connection without a mount owns none among those that live
pub none_owned : (seats conn : ℕ) (history : History) (mounts : List Mount) → AreLive seats history mounts → ((number : ℕ) → IsLive history number conn → ⊥) → owned_by conn mounts ≡ None
none_owned seats conn history mounts live none = by (owned_by conn mounts) refl
  where
    by : (found : Option Mount) → owned_by conn mounts ≡ found → owned_by conn mounts ≡ None
    by None at = at
    by (Some mount) at =
        let is = found_all (IsLiveMount seats history) (λ m. m.owner == conn) mounts mount live.each at in
        absurd (none mount.number (subst (λ o. IsLive history mount.number o) (eqb-true mount.owner conn (found_passes (λ m. m.owner == conn) mounts mount at)) is.live))

-- a name that no mount has finds none
pub none_named : (seats : ℕ) (history : History) (mounts : List Mount) (name : List ℕ) → AreLive seats history mounts → ((mount : Mount) → IsLiveMount seats history mount → mount.name ≡ name → ⊥) → named name mounts ≡ None
none_named seats history mounts name live free = by (named name mounts) refl
  where
    by : (found : Option Mount) → named name mounts ≡ found → named name mounts ≡ None
    by None at = at
    by (Some mount) at =
        let is = found_all (IsLiveMount seats history) (λ m. bytes_eq name m.name) mounts mount live.each at in
        absurd (free mount is (sym ((bytes_decides name mount.name).0 (found_passes (λ m. bytes_eq name m.name) mounts mount at))))

-- where one element passes a test, one is found by it
find_some : {X : Type 0} (p q : X → Bool) (xs : List X) (x : X) → find q xs ≡ Some x → p x ≡ true → (y : X) × (find p xs ≡ Some y)
find_some {X = X} p q [] x at is = absurd (cc)
find_some {X = X} p q (y ∷ xs) x at is = by (p y) refl (q y) at (λ later. find_some p q xs x later is)
  where
    by : (v : Bool) → p y ≡ v → (w : Bool) → cond w (Some y) (find q xs) ≡ Some x → (find q xs ≡ Some x → (z : X) × (find p xs ≡ Some z)) → (z : X) × (cond v (Some y) (find p xs) ≡ Some z)
    by true passes w at later = (y, refl)
    by false fails true at later = let same : y ≡ x = cc in let here = ap p same in absurd (cc)
    by false fails false at later = later at

-- The mount is what was announced.
pub record IsTheMount (conn : ℕ) (publication : Publication) (number : ℕ) (mount : Mount) : Type 0 where
  pub of : IsMountOf conn publication number mount
  pub description_is : mount.description ≡ publication.description

-- The own mount is found by its number and by its owner.
pub record IsFound (conn : ℕ) (publication : Publication) (number : ℕ) (mounts : List Mount) : Type 0 where
  pub mount : Mount
  pub at : numbered number mounts ≡ Some mount
  pub is : IsTheMount conn publication number mount
  pub own : Mount
  pub owned : owned_by conn mounts ≡ Some own
  pub is_own : IsTheMount conn publication number own

module _ (seats conn : ℕ) (publication : Publication) (history : History) (legal : IsLegal seats history) (owns : Owns conn publication history) where
  -- a mount of the connection's that lives is the one that it has announced
  pub the_mount : (mount : Mount) → IsLiveMount seats history mount → mount.owner ≡ conn → IsTheMount conn publication owns.number mount
  the_mount mount is owner =
      let number : mount.number ≡ owns.number = owns_one seats history conn mount.number owns.number legal (subst (λ o. IsLive history mount.number o) owner is.live) owns.live in
      let nth = subst (λ n. IsNth (accepts is_announce) n history is.live.later is.live.moment) number is.live.nth in
      let moment = one_nth (accepts is_announce) owns.number history is.live.later owns.live.later is.live.moment owns.live.moment nth owns.live.nth in
      let say = one_announcement is.live.moment.entry owns.live.moment.entry mount.owner conn mount.name publication.target.path mount.description publication.description moment.entry is.announced owns.announced in
      record { of = record { number_is = number; owner_is = owner; name_is = say.name_is }; description_is = say.description_is }

  pub found_own : (mounts : List Mount) → AreLive seats history mounts → IsFound conn publication owns.number mounts
  found_own mounts live =
      let there = live.all owns.number conn owns.live in
      let lives = found_all (IsLiveMount seats history) (λ m. m.number == owns.number) mounts there.0 live.each there.1 in
      let some = find_some (λ (m : Mount). m.owner == conn) (λ m. m.number == owns.number) mounts there.0 there.1 (eq-eqb there.0.owner conn there.2) in
      let also = found_all (IsLiveMount seats history) (λ m. m.owner == conn) mounts some.0 live.each some.1 in
      record {
        mount = there.0;
        at = there.1;
        is = the_mount there.0 lives there.2;
        own = some.0;
        owned = some.1;
        is_own = the_mount some.0 also (eqb-true some.0.owner conn (found_passes (λ m. m.owner == conn) mounts some.0 some.1));
      }
