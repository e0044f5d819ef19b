-- The tracks that requests name.
use Rattle.std.proofs.Common.{◌≡◌, ◌≢◌, ℕ, ◌<◌, ◌≤◌, Bool, true, false, Some, None, Option, inl, inr, List, ◌∷◌, ◌++◌, length, sym, ap, subst, ◌∙◌, arith, slice_get, IfSome, IfNone, MatchBool, MatchOption}
use Rattle.std.specs.Str.{bytes_eq}
use Rattle.std.specs.Cmp.Lexicographic.{bytes_decides}
use Rattle.std.proofs.lemmas.List.{append_cancel_left}
use Rattle.std.proofs.lemmas.Option.{slice_get_within}
use Rattle.base_syntax.proofs.Lists.{same_tail}
use Rattle.sdp.specs.declared.track.Track.{Track}
use Rattle.sdp.specs.Written.{track_control}
use Rattle.mounts.specs.declared.target.Target.{Target}
use Rattle.mounts.specs.Tracks.{HasNoControl, IsCalledBy, IsNamedByOwner, IsNamedByPlayer, IsRestAndQuery, NoneIsCalledBy}
use Rattle.mounts.proofs.Controls.{control_injective}
use Rattle.mounts.proofs.Indexed.{some_at}
use Rattle.mounts.proofs.Places.{all_at}

-- a control that goes on after the rest with a question mark is compared with the query
pub rest_and_query : (target : Target) (rest control behind asked query : List ℕ) (b : Bool) → target.query ≡ Some query → control ≡ rest ++ behind → behind ≡ 63 ∷ asked
    → b ≡ bytes_eq asked query → MatchBool b (IsRestAndQuery target rest control) (IsRestAndQuery target rest control → ⊥)
rest_and_query target rest control behind asked query true has e f is =
    (query, has, e ∙ ap (λ bs. rest ++ bs) (f ∙ ap (λ bs. 63 ∷ bs) ((bytes_decides asked query).0 (sym is))))
rest_and_query target rest control behind asked query false has e f is = λ h.
    let same : query ≡ h.0 = by query h.0 (sym has ∙ h.1) in
    let shown : 63 ∷ asked ≡ 63 ∷ h.0 = sym f ∙ append_cancel_left rest behind (63 ∷ h.0) (sym e ∙ h.2) in
    let equal = (bytes_decides asked query).1 (same_tail shown ∙ sym same) in
    absurd (cc)
  where
    by : (a b : List ℕ) → Some a ≡ Some b → a ≡ b
    by a b e = cc

-- the track that a number names for a player
pub player_names : (rest : List ℕ) (tracks shown : List Track) (found : Option ℕ) → shown ≡ tracks → IfSome found (λ n. n < length shown) → IfSome found (λ n. rest ≡ track_control n)
    → IfNone found ((n : ℕ) → n < length shown → rest ≢ track_control n) → MatchOption found ((n : ℕ) → IsNamedByPlayer rest tracks n → ⊥) (IsNamedByPlayer rest tracks)
player_names rest tracks shown (Some n) same below some none =
    let one = some_at tracks n (subst (λ ts. n < length ts) same below) in record { track = one.0; there = one.1; named = some }
player_names rest tracks shown None same below some none = λ n h. none n (subst (λ ts. n < length ts) (sym same) (slice_get_within tracks n h.track h.there)) h.named

same_track : {X : Type 0} (x y : X) → Some x ≡ Some y → x ≡ y
same_track x y e = cc

-- where a track that was announced with a control of its own has the number, the owner names none
pub owner_names_none : (target : Target) (rest : List ℕ) (tracks : List Track) (k : ℕ) (track : Track) → length tracks ≤ 16 → NoneIsCalledBy target rest tracks → slice_get tracks k ≡ Some track
    → rest ≡ track_control k → (HasNoControl track → ⊥) → (n : ℕ) → IsNamedByOwner target rest tracks n → ⊥
owner_names_none target rest tracks k track few none at named full n (inl h) = all_at (λ t. IsCalledBy target rest t → ⊥) tracks n h.track none h.there h.called
owner_names_none target rest tracks k track few none at named full n (inr h) =
    let low = slice_get_within tracks n h.track h.there in
    let here = slice_get_within tracks k track at in
    let same : n ≡ k = control_injective n k (omega arith) (omega arith) (sym h.named ∙ named) in
    full (subst HasNoControl (same_track h.track track (sym h.there ∙ ap (slice_get tracks) same ∙ at)) h.bare)
