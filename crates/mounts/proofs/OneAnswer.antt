-- One URI, one mount, one track.
use Rattle.std.proofs.Common.{◌≡◌, ℕ, zero, suc, ◌<◌, ◌≤◌, ◌==◌, Bool, true, false, Option, None, Some, Ok, Err, inl, inr, List, [], ◌∷◌, ◌++◌, length, length-append, take, refl, sym, ap, subst, ◌∙◌, arith, codes, slice_get}
use Rattle.std.proofs.lemmas.List.{take_at, append_cancel_left}
use Rattle.std.proofs.lemmas.Option.{slice_get_within}
use Rattle.url.specs.Parser.{Parsed, parse_url}
use Rattle.url.specs.Parts.{Parts}
use Rattle.url.specs.declared.error.ParseError.TheVariants.{RelativeUrlWithoutBase}
use Rattle.url.proofs.OnLiterals.{url_on_literals}
use Rattle.base_syntax.proofs.Lists.{same_tail}
use Rattle.sdp.specs.declared.track.Track.{Track}
use Rattle.sdp.specs.Written.{track_control}
use Rattle.mounts.specs.declared.mount.Mount.{Mount}
use Rattle.mounts.specs.declared.target.Target.{Target}
use Rattle.mounts.specs.declared.uri.Uri.{Uri}
use Rattle.mounts.specs.declared.uri.Uri.TheVariants.{Star, At}
use Rattle.mounts.specs.Find.{IsFoundIn}
use Rattle.mounts.specs.Mounts.{named}
use Rattle.mounts.specs.Names.{GoesOn}
use Rattle.mounts.specs.Tracks.{IsCalledBy, IsFirstCalledBy, IsNamedBy, NamesTrack}
use Rattle.mounts.specs.Uri.{IsTarget, IsUri, path_of, slash}
use Rattle.mounts.proofs.Controls.{control_injective}
use Rattle.mounts.proofs.Places.{all_at}

-- `*` is no URL
star_is_no_url : parse_url None (codes "*") ≡ Err RelativeUrlWithoutBase
unfolding url_on_literals
star_is_no_url = refl

star_is_no_target : (text : List ℕ) (target : Target) → text ≡ codes "*" → IsTarget text target → ⊥
star_is_no_target text target e h =
    let parsed = h.is.parsed in
    let refused = ap (parse_url None) e ∙ star_is_no_url in
    absurd (cc)

same_url : (parsed : Parsed Parts) (a b : Parts) → parsed ≡ Ok a → parsed ≡ Ok b → a ≡ b
same_url parsed a b e f = cc

abbrev made : List ℕ → Option (List ℕ) → List ℕ → Target
made path query base = record { path = path; query = query; base = base }

one_target : (text : List ℕ) (a b : Target) → IsTarget text a → IsTarget text b → a ≡ b
one_target text a b g h =
    let same : g.url ≡ h.url = same_url (parse_url None text) g.url h.url g.is.parsed h.is.parsed in
    let path = g.path ∙ ap path_of same ∙ sym h.path in
    let query = g.query ∙ ap (λ u. u.query) same ∙ sym h.query in
    let base = g.base ∙ sym h.base in
    ap (λ p. made p a.query a.base) path ∙ ap (λ q. made b.path q a.base) query ∙ ap (made b.path b.query) base

pub one_uri : (text : List ℕ) (a b : Uri) → IsUri text a → IsUri text b → a ≡ b
one_uri text Star Star g h = refl
one_uri text Star (At b) g h = absurd (star_is_no_target text b g h)
one_uri text (At a) Star g h = absurd (star_is_no_target text a h g)
one_uri text (At a) (At b) g h = ap At (one_target text a b g h)

-- a path goes on after a name of one length in one way
pub shorter : (path a b : List ℕ) (rest behind : Option (List ℕ)) → GoesOn path a rest → GoesOn path b behind → length a ≡ length b → (a ≡ b) × (rest ≡ behind)
shorter path a b None None g h e = (sym g ∙ h, refl)
shorter path a b None (Some r) g h e = let long = ap length (sym g ∙ h) in absurd (omega (arith, long, e, length-append b (slash ∷ r)))
shorter path a b (Some r) None g h e = let long = ap length (sym h ∙ g) in absurd (omega (arith, long, e, length-append a (slash ∷ r)))
shorter path a b (Some r) (Some s) g h e =
    let cut : a ≡ b = sym (take_at a (slash ∷ r) (length b) e) ∙ ap (take (length b)) (sym g ∙ h) ∙ take_at b (slash ∷ s) (length b) refl in
    (cut, ap Some (same_tail (append_cancel_left b (slash ∷ r) (slash ∷ s) (ap (λ n. n ++ slash ∷ r) (sym cut) ∙ (sym g ∙ h)))))

-- of two beginnings that were found, neither is longer
not_longer : (mounts : List Mount) (path : List ℕ) (m n : ℕ) (rest behind : Option (List ℕ)) → (g : IsFoundIn mounts path m rest) → (h : IsFoundIn mounts path n behind)
    → length g.name < length h.name → ⊥
not_longer mounts path m n rest behind g h more =
    let none = g.longest h.name behind h.goes_on more in
    let some = h.live in
    absurd (cc)

same_length : (mounts : List Mount) (path : List ℕ) (m n : ℕ) (rest behind : Option (List ℕ)) → (g : IsFoundIn mounts path m rest) → (h : IsFoundIn mounts path n behind)
    → length g.name ≡ length h.name
same_length mounts path m n rest behind g h =
    let a = not_longer mounts path m n rest behind g h in
    let b = not_longer mounts path n m behind rest h g in
    grind (arith, a, b)

same_mount : (a b : Mount) → Some a ≡ Some b → a.number ≡ b.number
same_mount a b e = let same : a ≡ b = cc in ap (λ m. m.number) same

pub one_mount : (mounts : List Mount) (path : List ℕ) (m n : ℕ) (rest behind : Option (List ℕ)) → IsFoundIn mounts path m rest → IsFoundIn mounts path n behind → (m ≡ n) × (rest ≡ behind)
one_mount mounts path m n rest behind g h =
    let same = shorter path g.name h.name rest behind g.goes_on h.goes_on (same_length mounts path m n rest behind g h) in
    (sym g.number_is ∙ same_mount g.mount h.mount (sym g.live ∙ ap (λ name. named name mounts) same.0 ∙ h.live) ∙ h.number_is, same.1)

taken_at : {X : Type 0} (xs : List X) (i n : ℕ) (x : X) → i < n → slice_get xs i ≡ Some x → slice_get (take n xs) i ≡ Some x
taken_at [] i n x low at = absurd (cc)
taken_at (y ∷ xs) i zero x low at = absurd (omega arith)
taken_at (y ∷ xs) zero (suc n) x low at = at
taken_at (y ∷ xs) (suc i) (suc n) x low at = taken_at xs i n x (omega arith) at

not_before : (target : Target) (rest : List ℕ) (tracks : List Track) (m n : ℕ) → IsFirstCalledBy target rest tracks m → IsFirstCalledBy target rest tracks n → m < n → ⊥
not_before target rest tracks m n g h low = all_at (λ t. IsCalledBy target rest t → ⊥) (take n tracks) m g.track h.first (taken_at tracks m n g.track low g.there) g.called

one_numbered : (rest : List ℕ) (tracks : List Track) (m n : ℕ) (a b : Track) → length tracks ≤ 16 → slice_get tracks m ≡ Some a → slice_get tracks n ≡ Some b
    → rest ≡ track_control m → rest ≡ track_control n → m ≡ n
one_numbered rest tracks m n a b few at there g h =
    let low = slice_get_within tracks m a at in
    let high = slice_get_within tracks n b there in
    control_injective m n (omega arith) (omega arith) (sym g ∙ h)

pub named_once : (owns : Bool) (target : Target) (rest : List ℕ) (tracks : List Track) (m n : ℕ) → length tracks ≤ 16 → IsNamedBy owns target rest tracks m → IsNamedBy owns target rest tracks n → m ≡ n
named_once false target rest tracks m n few g h = one_numbered rest tracks m n g.track h.track few g.there h.there g.named h.named
named_once true target rest tracks m n few (inl g) (inl h) =
    let a = not_before target rest tracks m n g h in
    let b = not_before target rest tracks n m h g in
    by a b
  where
    by : (m < n → ⊥) → (n < m → ⊥) → m ≡ n
    by a b = grind (arith, a, b)
named_once true target rest tracks m n few (inl g) (inr h) = absurd (all_at (λ t. IsCalledBy target rest t → ⊥) tracks m g.track h.uncalled g.there g.called)
named_once true target rest tracks m n few (inr g) (inl h) = absurd (all_at (λ t. IsCalledBy target rest t → ⊥) tracks n h.track g.uncalled h.there h.called)
named_once true target rest tracks m n few (inr g) (inr h) = one_numbered rest tracks m n g.track h.track few g.there h.there g.named h.named

pub one_rest : (path name rest other : List ℕ) → GoesOn path name (Some rest) → GoesOn path name (Some other) → rest ≡ other
one_rest path name rest other g h = same_tail (append_cancel_left name (slash ∷ rest) (slash ∷ other) (sym g ∙ h))

pub one_track : (mount : Mount) (connection : ℕ) (target : Target) (m n : ℕ) → length mount.description.tracks ≤ 16 → NamesTrack mount connection target m → NamesTrack mount connection target n → m ≡ n
one_track mount connection target m n few g h =
    let same = one_rest target.path mount.name g.rest h.rest g.behind h.behind in
    named_once (mount.owner == connection) target h.rest mount.description.tracks m n few
    (subst (λ rest. IsNamedBy (mount.owner == connection) target rest mount.description.tracks m) same g.named) h.named
