-- What the checks of a SETUP tell after that of what it names.
use Rattle.std.proofs.Common.{◌≡◌, ◌++◌, ◌==◌, ◌<◌, ◌≤◌, ℕ, suc, Bool, true, false, List, [], ◌∷◌, length, Option, None, Some, All, inl, inr, refl, sym, ap, subst, ◌∙◌, arith, codes}
use Rattle.std.proofs.lemmas.Option.{slice_get_within}
use Rattle.sdp.specs.declared.track.Track.{Track}
use Rattle.transport_header.specs.declared.spec.Spec.{Spec}
use Rattle.transport_header.specs.declared.spec.Mode.TheVariants as modes
use Rattle.transport_header.specs.Chosen.{IsAcceptable, IsFirstAcceptable}
use Rattle.transport_header.specs.Transport.{specs_of}
use Rattle.transport_header.proofs.OneChoice.{first_is_one}
use Rattle.mounts.specs.declared.mount.Mount.{Mount}
use Rattle.mounts.specs.declared.target.Target.{Target}
use Rattle.mounts.specs.Mounts.{numbered, owned_by}
use Rattle.mounts.specs.Tracks.{IsNamedBy}
use Rattle.session_state.specs.declared.checks.asking.Asking.{Asking}
use Rattle.session_state.specs.declared.checks.Check.TheVariants.{HasTransport, MayRecord, NamesATrack, OwnsNoOther}
use Rattle.session_state.specs.declared.checks.refusal.Refusal.TheVariants.{Fails}
use Rattle.session_state.specs.declared.checks.setup.Delivery.{Delivery}
use Rattle.session_state.specs.Asking.{IsDelivery, IsNamedForSetup, IsPassing, IsRefusedAt, IsTheTrack, IsTrackBehind, asked_in}
use Rattle.session_state.specs.Checks.{AsksFor, Asked, NamesForSetup, Passes, field}
use Rattle.session_state.specs.History.{History}
use Rattle.session_state.specs.Streams.{IsSetUpOn, IsTrackOf, SetsUp}
use Rattle.session_state.proofs.CheckedNames.{one_set_up, same_some, same_target}
use Rattle.session_state.proofs.CheckedSetUp.{same_set_up}

-- no spec of a list is acceptable
abbrev NoneAcceptable : List Spec → Type 0
NoneAcceptable specs = All (λ spec. ¬ IsAcceptable spec) specs

rest_of : (x : Spec) (xs : List Spec) → NoneAcceptable (x ∷ xs) → NoneAcceptable xs
rest_of x xs none k d below = none (suc k) d (omega arith)

none_at : (before : List Spec) (spec : Spec) (after : List Spec) → NoneAcceptable (before ++ spec ∷ after) → ¬ IsAcceptable spec
none_at [] spec after none = none 0 spec (omega arith)
none_at (x ∷ xs) spec after none = none_at xs spec after (rest_of x (xs ++ spec ∷ after) none)

-- no spec is asked for where none is acceptable
pub none_asked : (asked : Asked) (text : List ℕ) (specs : List Spec) → field asked (codes "Transport") ≡ Some text → specs ≡ specs_of text → NoneAcceptable specs → Passes asked HasTransport → ⊥
none_asked asked text specs at are none (spec, (other, there, first)) =
    let same : other ≡ text = same_some other text (field asked (codes "Transport")) there at in
    let is : specs_of other ≡ specs = ap specs_of same ∙ sym are in
    none_at first.0 spec first.1 (subst NoneAcceptable (sym is ∙ first.2) none) first.4

-- what another look at a SETUP names is the same
only_named : (asking : Asking) (target : Target) (mount : Mount) (track : Option ℕ) (named : IsNamedForSetup asking target mount track) (history : History) (t : Target) (m : Mount) (r : Option (List ℕ))
    → NamesForSetup (asked_in asking history) t m r → m ≡ mount
only_named asking target mount track named history t m r h =
    let names = named.names history in
    let same = same_set_up (asked_in asking history) target t mount.number named.rest r m names.uri names.on h in
    same_some m mount (numbered mount.number asking.mounts.now.mounts) (subst (λ n. numbered n asking.mounts.now.mounts ≡ Some m) same.1 h.is) names.is

-- the connection owns no other mount
pub owns_passes : (asking : Asking) (target : Target) (mount : Mount) (track : Option ℕ) → IsNamedForSetup asking target mount track
    → ((own : Mount) → owned_by asking.conn asking.mounts.now.mounts ≡ Some own → own.number ≡ mount.number) → (history : History) → Passes (asked_in asking history) OwnsNoOther
owns_passes asking target mount track named owns history = λ t m r own h at. owns own at ∙ ap (λ (x : Mount). x.number) (sym (only_named asking target mount track named history t m r h))

pub owns_fails : (asking : Asking) (target : Target) (mount : Mount) (track : Option ℕ) → IsNamedForSetup asking target mount track
    → (((own : Mount) → owned_by asking.conn asking.mounts.now.mounts ≡ Some own → own.number ≡ mount.number) → ⊥) → (history : History) → Passes (asked_in asking history) OwnsNoOther → ⊥
owns_fails asking target mount track named not history passes = not (λ own at. passes target mount named.rest own (named.names history) at)

-- a track that is named is one of the mount's
named_below : (owns : Bool) (target : Target) (rest : List ℕ) (tracks : List Track) (track : ℕ) → IsNamedBy owns target rest tracks track → track < length tracks
named_below false target rest tracks track h = slice_get_within tracks track h.track h.there
named_below true target rest tracks track (inl h) = slice_get_within tracks track h.track h.there
named_below true target rest tracks track (inr h) = slice_get_within tracks track h.track h.there

track_named : (conn : ℕ) (target : Target) (mount : Mount) (rest : Option (List ℕ)) (named : Option ℕ) (track : ℕ) → IsTrackBehind conn target mount rest named → IsTheTrack mount named track
    → IsTrackOf mount conn target rest track
track_named conn target mount None None track behind the = the
track_named conn target mount None (Some n) track behind the = absurd (cc)
track_named conn target mount (Some text) None track behind the = absurd behind
track_named conn target mount (Some text) (Some n) track behind the = subst (λ t. IsNamedBy (mount.owner == conn) target text mount.description.tracks t) (sym the) behind

track_below : (conn : ℕ) (target : Target) (mount : Mount) (rest : Option (List ℕ)) (track : ℕ) → length mount.description.tracks ≤ 16 → IsTrackOf mount conn target rest track → track < 16
track_below conn target mount None track few h = let zero_is = h.1 in omega (arith, zero_is)
track_below conn target mount (Some text) track few h = let below = named_below (mount.owner == conn) target text mount.description.tracks track h in omega (arith, below, few)

-- the track that is set up
pub track_set_up : (asking : Asking) (target : Target) (mount : Mount) (named : Option ℕ) (track : ℕ) → length mount.description.tracks ≤ 16 → IsNamedForSetup asking target mount named → IsTheTrack mount named track
    → SetsUp asking.mounts.now.mounts asking.conn asking.request.now.uri mount track × (track < 16)
track_set_up asking target mount named track few is the =
    let names = is.names [] in
    let of = track_named asking.conn target mount is.rest named track is.track_is the in
    (record { target = target; names = names.uri; rest = is.rest; on = names.on; is = names.is; track_is = of }, track_below asking.conn target mount is.rest track few of)

no_track : (conn : ℕ) (target : Target) (mount : Mount) (rest : Option (List ℕ)) (named : Option ℕ) (track : ℕ) → IsTrackBehind conn target mount rest named
    → ((other : ℕ) → IsTheTrack mount named other → ⊥) → IsTrackOf mount conn target rest track → ⊥
no_track conn target mount None None track behind none h = none track h
no_track conn target mount None (Some n) track behind none h = none n refl
no_track conn target mount (Some text) None track behind none h = behind
no_track conn target mount (Some text) (Some n) track behind none h = none n refl

pub several_tracks : (asking : Asking) (target : Target) (mount : Mount) (named : Option ℕ) → IsNamedForSetup asking target mount named → ((other : ℕ) → IsTheTrack mount named other → ⊥)
    → (history : History) → Passes (asked_in asking history) NamesATrack → ⊥
several_tracks asking target mount named is none history (m, track, h) =
    let names = is.names history in
    let uri : h.target ≡ target = same_target asking.request.now.uri h.target target h.names names.uri in
    let one = one_set_up asking.mounts.now.mounts asking.conn target.path m.number mount.number h.rest is.rest
    (subst (λ (x : Target). IsSetUpOn asking.mounts.now.mounts asking.conn x.path m.number h.rest) uri h.on) names.on in
    let same : m ≡ mount = same_some m mount (numbered mount.number asking.mounts.now.mounts) (subst (λ n. numbered n asking.mounts.now.mounts ≡ Some m) one.0 h.is) names.is in
    no_track asking.conn target mount is.rest named track is.track_is none
    (subst (λ (r : Option (List ℕ)). IsTrackOf mount asking.conn target r track) one.1
    (subst (λ (x : Mount). IsTrackOf x asking.conn target h.rest track) same
    (subst (λ (x : Target). IsTrackOf m asking.conn x h.rest track) uri h.track_is)))

-- the delivery that is asked for
asked_spec : (asking : Asking) (delivery : Delivery) (is : IsDelivery asking delivery) (history : History) → AsksFor (asked_in asking history) is.spec
asked_spec asking delivery is history = (is.text, is.field_is, subst (λ specs. IsFirstAcceptable specs is.spec) is.specs_are is.first)

only_spec : (asking : Asking) (delivery : Delivery) (is : IsDelivery asking delivery) (history : History) (spec : Spec) → AsksFor (asked_in asking history) spec → spec ≡ is.spec
only_spec asking delivery is history spec h =
    let same : h.0 ≡ is.text = same_some h.0 is.text _ h.1 is.field_is in
    first_is_one delivery.specs spec is.spec (subst (λ specs. IsFirstAcceptable specs spec) (ap specs_of same ∙ sym is.specs_are) h.2) is.first

pub may_record : (asking : Asking) (target : Target) (mount : Mount) (track : Option ℕ) (delivery : Delivery) → IsNamedForSetup asking target mount track → IsDelivery asking delivery
    → (delivery.recording ≡ true → mount.owner ≡ asking.conn) → IsPassing asking (HasTransport ∷ MayRecord ∷ [])
may_record asking target mount track delivery named is owner = λ history told. (
  (is.spec, asked_spec asking delivery is history),
  (
    (λ t m r spec h asks records.
        let same : m ≡ mount = only_named asking target mount track named history t m r h in
        let mode : is.spec.mode ≡ modes.Record = ap (λ (s : Spec). s.mode) (sym (only_spec asking delivery is history spec asks)) ∙ records in
        ap (λ (x : Mount). x.owner) same ∙ owner (is.records.1 mode)),
    tt,
  ),
)

pub may_not_record : (asking : Asking) (target : Target) (mount : Mount) (track : Option ℕ) (delivery : Delivery) → IsNamedForSetup asking target mount track → IsDelivery asking delivery → delivery.recording ≡ true
    → (mount.owner ≡ asking.conn → ⊥) → IsRefusedAt asking (HasTransport ∷ MayRecord ∷ []) (Fails MayRecord)
may_not_record asking target mount track delivery named is records other = λ history told. inr (
  (is.spec, asked_spec asking delivery is history),
  inl (refl, λ passes. other (passes target mount named.rest is.spec (named.names history) (asked_spec asking delivery is history) (is.records.0 records))),
)
