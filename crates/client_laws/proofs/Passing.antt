-- Each request of a client that publishes passes all its checks, at its stage.
use Rattle.std.proofs.Common.{◌≡◌, ◌<◌, ◌^◌, ◌-◌, ◌==◌, ℕ, true, List, ◌⊎◌, inl, is_some, IsSome, Option, None, Some, codes, refl, ap, sym, subst, ◌∙◌}
use Rattle.std.specs.Option.{option_copied, option_map}
use Rattle.rtsp_message.specs.Headers.{value_of}
use Rattle.sdp.specs.Readings.{Reads}
use Rattle.sdp.specs.Written.{track_control}
use Rattle.mounts.specs.declared.mount.Mount.{Mount}
use Rattle.mounts.specs.declared.target.Target.{Target}
use Rattle.mounts.specs.declared.uri.Uri.TheVariants.{At}
use Rattle.mounts.specs.Mounts.{numbered}
use Rattle.mounts.specs.Tracks.{IsNamedBy}
use Rattle.mounts.specs.Uri.{IsUri}
use Rattle.session_state.specs.declared.method.Method.{Method}
use Rattle.session_state.specs.declared.method.Method.TheVariants as methods
use Rattle.session_state.specs.declared.session.Session.{Session}
use Rattle.session_state.specs.declared.session.State.{State}
use Rattle.session_state.specs.Checks.{Asked, IsFreeName, LooksUp, NamesForSetup, NamesInSession, NamesItsSession, NamesSome, Passes, PassesAll, checks_of, fits, own_checks, state_in}
use Rattle.session_state.specs.Fields.{is_sdp}
use Rattle.session_state.specs.History.{History}
use Rattle.session_state.specs.Lookups.{sessions_begun}
use Rattle.session_state.specs.Methods.{method_of}
use Rattle.session_state.proofs.CheckedSetUp.{same_set_up}
use Rattle.request_text.specs.declared.request_text.RequestText.{RequestText}
use Rattle.request_text.specs.Methods.{body_of, description_of, transport_of}
use Rattle.request_text.specs.Texts.{request_of}
use Rattle.client_laws.specs.Phases.{IsFresh}
use Rattle.client_laws.specs.Publishing.{AsksAnnounce, AsksOptions, AsksRecord, AsksSetup, AsksTeardown, CanBePublished, HasPlace, Publication, track_count}
use Rattle.client_laws.proofs.Accepting.{named_so, none_kept, unnamed}
use Rattle.client_laws.proofs.Fields.{Tell, fields_tell}
use Rattle.client_laws.proofs.OwnMount.{IsFound, none_named, none_owned}
use Rattle.client_laws.proofs.Naming.{IsNamedTrack, track_named}
use Rattle.client_laws.proofs.Named.{IsKnown, announce_named, asked_for, options_named, record_named, setup_named, teardown_named}
use Rattle.session_state.specs.declared.checks.Check.TheVariants.{HasTransport, HasUri, MayRecord, OwnsNoOther}

module _ (seats conn : ℕ) (publication : Publication) (can : CanBePublished publication) (history : History) (request : RequestText) (mounts : List Mount) (session : Option Session)
    (looks : LooksUp (asked_for seats conn history request mounts session)) where
  abbrev pub asked : Asked
  asked = asked_for seats conn history request mounts session

  tells : Tell (request_of request).headers request.asked (option_copied request.session)
  tells = fields_tell request

  at_uri : request.uri.now ≡ publication.uri → IsUri request.uri.now (At publication.target)
  at_uri is = subst (λ text. IsUri text (At publication.target)) (sym is) can.uri

  -- all checks of a request: the first, those that each method has, and the method's own
  all_checks : (method : Method) → method_of (request_of request).method ≡ Some method → Passes asked (HasUri method) → NamesItsSession asked method → NamesSome asked method
      → fits method (state_in session) ≡ true → PassesAll asked (own_checks method) → PassesAll asked (checks_of (Some method))
  all_checks method named uri its names fit own = (refl, (refl, (ap is_some named, (tells.require, (uri, (its, (names, (fit, own))))))))

  pub announce_passes : IsFresh conn history → HasPlace seats history publication.target.path → AsksAnnounce publication request → PassesAll asked (checks_of (Some methods.Announce))
  announce_passes fresh place (body, body_is, asks_so) =
      let none : session ≡ None = none_kept seats conn history session looks.session fresh.no_session in
      let uri = at_uri asks_so.uri_is in
      let reads : Reads (body_of request.asked) publication.description = subst (λ text. Reads text publication.description) (sym (ap body_of asks_so.kind_is ∙ body_is)) can.body in
      let free : IsFreeName asked publication.target = record { uri = uri; first = none_owned seats conn history mounts looks.mounts fresh.owns_none; name = can.name; plain = can.plain; free = none_named seats history mounts publication.target.path looks.mounts place.free } in
      all_checks methods.Announce (announce_named request publication (body, body_is, asks_so)) (At publication.target, uri, tt)
      (unnamed asked methods.Announce (tells.session_is ∙ asks_so.session_is) none (λ needs. needs)) tt (ap (λ (s : Option Session). fits methods.Announce (state_in s)) none)
      ((publication.target, free), (typed (ap description_of asks_so.kind_is), (inl (publication.description, reads), ((publication.description, reads), (record { few = place.few mounts looks.mounts; left = place.left }, tt)))))
    where
      typed : description_of request.asked ≡ Some (body.now) → (text : List ℕ) → value_of (request_of request).headers (codes "Content-Type") ≡ Some text → is_sdp text ≡ true
      typed some text is =
          let known : value_of (request_of request).headers (codes "Content-Type") ≡ Some (codes "application/sdp") = tells.type_is ∙ ap (option_map (λ (d : List ℕ). codes "application/sdp")) some in
          let same : codes "application/sdp" ≡ text = cc in
          subst (λ t. is_sdp t ≡ true) same refl

  -- a request in the session that is known
  module _ (number : ℕ) (told : Option (List ℕ)) (state : State) (known : IsKnown asked publication number told state) where
    pub its_session : (method : Method) → option_copied request.session ≡ told → NamesItsSession asked method
    its_session method is = named_so asked method known.session known.has (tells.session_is ∙ is ∙ known.told_is)

    names_in : request.uri.now ≡ publication.uri → NamesInSession asked known.session publication.target None
    names_in is = record { has = known.has; uri = at_uri is; names = sym known.name_is }

    pub fits_in : (method : Method) → fits method (Some state) ≡ true → fits method (state_in session) ≡ true
    fits_in method is = ap (λ (s : Option Session). fits method (state_in s)) known.has ∙ ap (λ (s : State). fits method (Some s)) known.state_is ∙ is

    pub options_passes : AsksOptions publication told request → PassesAll asked (checks_of (Some methods.Options))
    options_passes asks_so =
        all_checks methods.Options (options_named request publication told asks_so) (At publication.target, at_uri asks_so.uri_is, tt)
        (its_session methods.Options asks_so.session_is) tt (fits_in methods.Options refl) tt

    pub teardown_passes : fits methods.Teardown (Some state) ≡ true → AsksTeardown publication told request → PassesAll asked (checks_of (Some methods.Teardown))
    teardown_passes fit asks_so =
        let names = names_in asks_so.uri_is in
        all_checks methods.Teardown (teardown_named request publication told asks_so) (At publication.target, at_uri asks_so.uri_is, tt)
        (its_session methods.Teardown asks_so.session_is) (known.session, publication.target, None, names) (fits_in methods.Teardown fit)
        ((known.session, publication.target, None, names, tt), tt)

    pub record_passes : IsFound conn publication number mounts → fits methods.Record (Some state) ≡ true → AsksRecord publication told request → PassesAll asked (checks_of (Some methods.Record))
    record_passes found fit asks_so =
        let names = names_in asks_so.uri_is in
        let there : IsSome (numbered known.session.mount mounts) = ap is_some (ap (λ n. numbered n mounts) known.mount_is ∙ found.at) in
        all_checks methods.Record (record_named request publication told asks_so) (At publication.target, at_uri asks_so.uri_is, tt)
        (its_session methods.Record asks_so.session_is) (known.session, publication.target, None, names, there) (fits_in methods.Record fit)
        (records, ((known.session, publication.target, None, names, tt), tt))
      where
        records : (s : Session) → session ≡ Some s → s.recording ≡ true
        records s has = let own = known.has in let same : known.session ≡ s = cc in ap (λ (one : Session). one.recording) (sym same) ∙ known.recording_is

  -- SETUP of a track
  module _ (number track : ℕ) (told : Option (List ℕ)) (found : IsFound conn publication number mounts) (there : track < track_count publication) (asks_so : AsksSetup publication track told request) where
    named_so_far : IsNamedTrack conn publication request mounts number track found
    named_so_far = track_named conn publication can request mounts number track told found there asks_so

    for_setup : ((s : Session) → session ≡ Some s → s.mount ≡ number) → NamesForSetup asked named_so_far.target found.mount (Some (track_control track))
    for_setup same = record {
      uri = named_so_far.uri;
      on = named_so_far.on;
      is = named_so_far.at;
      track = λ text is. let one : track_control track ≡ text = cc in (track, subst (λ t. IsNamedBy (found.mount.owner == conn) named_so_far.target t found.mount.description.tracks track) one named_so_far.named);
      same = λ s has. same s has ∙ sym found.is.of.number_is;
    }

    -- a mount that the request names is the own one
    pub only_own : (target : Target) (mount : Mount) (rest : Option (List ℕ)) → NamesForSetup asked target mount rest → (mount.number ≡ number) × (mount ≡ found.mount)
    only_own target mount rest names =
        let one = same_set_up asked named_so_far.target target number (Some (track_control track)) rest mount named_so_far.uri (named_so_far.on_number number refl) names in
        let at = subst (λ n. numbered n mounts ≡ Some mount) one.1 names.is in
        let own = found.at in
        (one.1, cc)

    only_one : Passes asked OwnsNoOther
    only_one target mount rest own names at =
        let mine = found.owned in
        let one : own ≡ found.own = cc in
        ap (λ (m : Mount). m.number) one ∙ found.is_own.of.number_is ∙ sym (only_own target mount rest names).0

    may_record : Passes asked MayRecord
    may_record target mount rest spec names asks_for mode = ap (λ (m : Mount). m.owner) (only_own target mount rest names).1 ∙ found.is.of.owner_is

    transports : Passes asked HasTransport
    transports = (asks_so.1.0, (asks_so.0.now, tells.transport_is ∙ ap transport_of asks_so.2.kind_is, asks_so.1.1))

    pub setup_passes : ((s : Session) → session ≡ Some s → s.mount ≡ number) → NamesItsSession asked methods.Setup → fits methods.Setup (state_in session) ≡ true
        → IsSome session ⊎ (sessions_begun history < 2 ^ 32 - 1) → PassesAll asked (checks_of (Some methods.Setup))
    setup_passes same its fit room =
        all_checks methods.Setup (setup_named request publication track told asks_so) (At named_so_far.target, named_so_far.uri, tt)
        its (named_so_far.target, found.mount, Some (track_control track), for_setup same) fit
        (only_one, ((found.mount, track, named_so_far.sets_up), (transports, (may_record, (room, tt)))))
