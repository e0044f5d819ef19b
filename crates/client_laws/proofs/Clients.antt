-- What a client asks its target for is the course of publishing.
use Rattle.std.proofs.Common.{◌≡◌, ◌<◌, ◌+◌, ℕ, zero, suc, add-one, inl, inr, List, [], ◌∷◌, ◌++◌, Option, Some, None, codes, decimal, refl, ap, sym, subst, ◌∙◌, arith}
use Rattle.std.specs.Prelude.{unwrap_or}
use Rattle.std.specs.Option.{option_copied}
use denote.Ref.{Bor}
use Rattle.rtsp_message.specs.declared.reply.Reply.{Reply}
use Rattle.session_state.specs.History.{History}
use Rattle.request_text.specs.declared.asked.Asked as kinds
use Rattle.request_text.specs.declared.asked.Asked.TheVariants as kind
use Rattle.request_text.specs.declared.method.Method.TheVariants as named
use Rattle.request_text.specs.declared.request_text.RequestText.{RequestText}
use Rattle.request_text.specs.Methods.{description_of, method_of, transport_of}
use Rattle.rtsp_client.specs.Clients.{asked_pair}
use Rattle.rtsp_client.specs.Table.{side_of}
use Rattle.rtsp_client.specs.TargetCourse as target
use Rattle.rtsp_client.specs.TargetCourse.{Asking, Asks as AsksNext, IsAsking, IsCourse, session_for}
use Rattle.rtsp_client.specs.declared.ask.Method.{Method}
use Rattle.rtsp_client.specs.declared.ask.Method.TheVariants as methods
use Rattle.rtsp_client.specs.declared.asked.Asked.{Asked}
use Rattle.rtsp_client.specs.declared.asked.Asked.TheVariants as asks
use Rattle.rtsp_client.specs.declared.asked.Side.TheVariants.{Target}
use Rattle.client_requests.specs.Requests.{description_if, given_uri, made_uri, method_for, track_in, transport_if, transport_by}
use Rattle.client_laws.specs.Clients.{AreAskedBy, HasRoomFor, HaveIdentifier, IsMadeOf}
use Rattle.client_laws.specs.Course.{Announced, Ended, Fresh, Moves, Publishes, Recording, SettingUp, Stage}
use Rattle.client_laws.specs.Publishing.{AsksAnnounce, AsksOptions, AsksRecord, AsksSetup, AsksTeardown, AsksToRecord, CanBePublished, Publication, track_count, track_transport}
use Rattle.client_laws.proofs.TrackTransports.{of_track}

-- the kind of a request, by its method, its description and its Transport
options_kind : (asked : kinds.Asked) → method_of asked ≡ named.Options → asked ≡ kind.Options
options_kind kind.Options h = refl
options_kind kind.Describe h = absurd (cc)
options_kind (kind.Announce description) h = absurd (cc)
options_kind (kind.Setup transport) h = absurd (cc)
options_kind kind.Record h = absurd (cc)
options_kind kind.Play h = absurd (cc)
options_kind kind.GetParameter h = absurd (cc)
options_kind kind.Teardown h = absurd (cc)

record_kind : (asked : kinds.Asked) → method_of asked ≡ named.Record → asked ≡ kind.Record
record_kind kind.Options h = absurd (cc)
record_kind kind.Describe h = absurd (cc)
record_kind (kind.Announce description) h = absurd (cc)
record_kind (kind.Setup transport) h = absurd (cc)
record_kind kind.Record h = refl
record_kind kind.Play h = absurd (cc)
record_kind kind.GetParameter h = absurd (cc)
record_kind kind.Teardown h = absurd (cc)

teardown_kind : (asked : kinds.Asked) → method_of asked ≡ named.Teardown → asked ≡ kind.Teardown
teardown_kind kind.Options h = absurd (cc)
teardown_kind kind.Describe h = absurd (cc)
teardown_kind (kind.Announce description) h = absurd (cc)
teardown_kind (kind.Setup transport) h = absurd (cc)
teardown_kind kind.Record h = absurd (cc)
teardown_kind kind.Play h = absurd (cc)
teardown_kind kind.GetParameter h = absurd (cc)
teardown_kind kind.Teardown h = refl

announce_kind : (asked : kinds.Asked) (text : List ℕ) → description_of asked ≡ Some text → (body : Bor (List ℕ)) × (body.now ≡ text) × (asked ≡ kind.Announce body)
announce_kind kind.Options text h = absurd (cc)
announce_kind kind.Describe text h = absurd (cc)
announce_kind (kind.Announce description) text h = (description, cc, refl)
announce_kind (kind.Setup transport) text h = absurd (cc)
announce_kind kind.Record text h = absurd (cc)
announce_kind kind.Play text h = absurd (cc)
announce_kind kind.GetParameter text h = absurd (cc)
announce_kind kind.Teardown text h = absurd (cc)

setup_kind : (asked : kinds.Asked) (text : List ℕ) → transport_of asked ≡ Some text → (transport : Bor (List ℕ)) × (transport.now ≡ text) × (asked ≡ kind.Setup transport)
setup_kind kind.Options text h = absurd (cc)
setup_kind kind.Describe text h = absurd (cc)
setup_kind (kind.Announce description) text h = absurd (cc)
setup_kind (kind.Setup transport) text h = (transport, cc, refl)
setup_kind kind.Record text h = absurd (cc)
setup_kind kind.Play text h = absurd (cc)
setup_kind kind.GetParameter text h = absurd (cc)
setup_kind kind.Teardown text h = absurd (cc)

module _ (publication : Publication) (asking : Asking) (request : RequestText) (made : IsMadeOf publication asking request) where
  -- what the request is by its method
  method_is : (method : Method) → asking.ask.method ≡ method → method_of request.asked ≡ method_for method
  method_is method is = made.text.asks.method ∙ ap (λ (m : Method). method_for m) is

  session_is : (session : Option (List ℕ)) → asking.session ≡ session → option_copied request.session ≡ session
  session_is session is = made.text.session_is ∙ is

  -- a request for this, by this method, goes to this URI
  uri_is : (asked : Asked) (method : Method) → asking.ask.asked ≡ asked → asking.ask.method ≡ method
      → request.uri.now ≡ unwrap_or (made_uri asked (track_in method) made.places.target.now) (given_uri asked made.places)
  uri_is asked method asked_is method_is =
      made.text.uri_is
      ∙ ap (λ (a : Asked). unwrap_or (made_uri a (track_in asking.ask.method) made.places.target.now) (given_uri a made.places)) asked_is
      ∙ ap (λ (m : Method). unwrap_or (made_uri asked (track_in m) made.places.target.now) (given_uri asked made.places)) method_is

  pub announces : (session : Option (List ℕ)) → IsAsking asks.Announce methods.Announce session asking → session ≡ None → AsksAnnounce publication request
  announces session is none =
      let of = announce_kind request.asked made.places.description.now (made.text.asks.description ∙ ap (λ (m : Method). description_if m made.places.description.now) is.method_is) in (
        of.0,
        of.1 ∙ made.description_is,
        record {
          kind_is = of.2;
          uri_is = uri_is asks.Announce methods.Announce is.asked_is is.method_is ∙ made.target_is;
          session_is = session_is session is.session_is ∙ none;
        },
      )

  pub sets_up : (track : ℕ) (session : Option (List ℕ)) → track < 16 → IsAsking asks.SetUpTarget (methods.SetUp track (asked_pair track)) session asking → AsksSetup publication track session request
  sets_up track session few is =
      let of = setup_kind request.asked (track_transport track)
      (made.text.asks.transport
      ∙ ap (λ (m : Method). transport_if m (transport_by m (side_of asking.ask.asked))) is.method_is
      ∙ ap (λ (a : Asked). transport_if (methods.SetUp track (asked_pair track)) (transport_by (methods.SetUp track (asked_pair track)) (side_of a))) is.asked_is) in (
        of.0,
        subst AsksToRecord (sym of.1) (of_track track few),
        record {
          kind_is = of.2;
          uri_is = uri_is asks.SetUpTarget (methods.SetUp track (asked_pair track)) is.asked_is is.method_is ∙ ap (λ (uri : List ℕ). uri ++ (codes "/trackID=" ++ decimal track)) made.target_is;
          session_is = session_is session is.session_is;
        },
      )

  pub records : (session : Option (List ℕ)) → IsAsking asks.Record methods.Record session asking → AsksRecord publication session request
  records session is = record {
    kind_is = record_kind request.asked (method_is methods.Record is.method_is);
    uri_is = uri_is asks.Record methods.Record is.asked_is is.method_is ∙ made.target_is;
    session_is = session_is session is.session_is;
  }

  pub keeps : (session : Option (List ℕ)) → IsAsking (asks.KeepAlive Target) methods.Options session asking → AsksOptions publication session request
  keeps session is = record {
    kind_is = options_kind request.asked (method_is methods.Options is.method_is);
    uri_is = uri_is (asks.KeepAlive Target) methods.Options is.asked_is is.method_is ∙ made.target_is;
    session_is = session_is session is.session_is;
  }

  pub tears_down : (session : Option (List ℕ)) → IsAsking (asks.TearDown Target) methods.TearDown session asking → AsksTeardown publication session request
  tears_down session is = record {
    kind_is = teardown_kind request.asked (method_is methods.TearDown is.method_is);
    uri_is = uri_is (asks.TearDown Target) methods.TearDown is.asked_is is.method_is ∙ made.target_is;
    session_is = session_is session is.session_is;
  }

-- the stage of the course, of a client whose session has this identifier
abbrev pub stage_of : (id : List ℕ) → target.Stage → Stage
stage_of id target.Unasked = Fresh
stage_of id (target.SettingUp zero) = Announced
stage_of id (target.SettingUp (suc before)) = SettingUp (suc before) (Some id)
stage_of id target.Recording = Recording (Some id)
stage_of id target.Ended = Ended

module _ (seats conn : ℕ) (publication : Publication) (can : CanBePublished publication) (id own : List ℕ) where
  few : (track : ℕ) → track < track_count publication → track < 16
  few track there = let most = can.body.good.few in omega (arith, there, most)

  -- with the client's identifier it has the one that the relay gave
  in_session : (asked : Asked) (method : Method) (asking : Asking) → ((session : List ℕ) → asking.session ≡ Some session → session ≡ id) → IsAsking asked method (Some own) asking → IsAsking asked method (Some id) asking
  in_session asked method asking same is =
      record { asked_is = is.asked_is; method_is = is.method_is; session_is = is.session_is ∙ ap (λ (x : List ℕ). Some x) (same own is.session_is) }

  -- what is asked next is a move of the course
  moves : (before : History) (asking : Asking) (request : RequestText) (reply : Reply) (from to : target.Stage) → IsMadeOf publication asking request
      → ((session : List ℕ) → asking.session ≡ Some session → session ≡ id) → HasRoomFor seats conn publication id asking.ask.asked asking.session before reply
      → AsksNext (track_count publication) own from asking to → Moves seats conn publication before (stage_of id from) request reply (stage_of id to)
  moves before asking request reply target.Unasked to made same room (is, to_is) = (
    announces publication asking request made None is refl,
    subst (λ (a : Asked). HasRoomFor seats conn publication id a asking.session before reply) is.asked_is room,
    ap (stage_of id) to_is,
  )
  moves before asking request reply (target.SettingUp zero) to made same room (inl (is, there, to_is)) =
      let at : HasRoomFor seats conn publication id asks.SetUpTarget asking.session before reply = subst (λ (a : Asked). HasRoomFor seats conn publication id a asking.session before reply) is.asked_is room in
      let begins : HasRoomFor seats conn publication id asks.SetUpTarget None before reply = subst (λ (s : Option (List ℕ)). HasRoomFor seats conn publication id asks.SetUpTarget s before reply) is.session_is at in
      (sets_up publication asking request made 0 None (few 0 there) is, there, begins.0, ap (stage_of id) to_is ∙ ap (λ (s : Option (List ℕ)). SettingUp 1 s) (sym begins.1))
  moves before asking request reply (target.SettingUp zero) to made same room (inr (inl (is, some, all, to_is))) = absurd (omega (arith, some))
  moves before asking request reply (target.SettingUp zero) to made same room (inr (inr (is, some, to_is))) = absurd (omega (arith, some))
  moves before asking request reply (target.SettingUp (suc track)) to made same room (inl (is, there, to_is)) = inl (
    sets_up publication asking request made (suc track) (Some id) (few (suc track) there) (in_session asks.SetUpTarget (methods.SetUp (suc track) (asked_pair (suc track))) asking same is),
    there,
    ap (stage_of id) to_is ∙ next_stage track,
  )
    where
      next_stage : (n : ℕ) → stage_of id (target.SettingUp (suc n + 1)) ≡ SettingUp (suc n + 1) (Some id)
      next_stage n = subst (λ (m : ℕ). stage_of id (target.SettingUp m) ≡ SettingUp m (Some id)) (sym (add-one (suc n))) refl
  moves before asking request reply (target.SettingUp (suc track)) to made same room (inr (inl (is, some, all, to_is))) =
      inr (inl (records publication asking request made (Some id) (in_session asks.Record methods.Record asking same is), all, ap (stage_of id) to_is))
  moves before asking request reply (target.SettingUp (suc track)) to made same room (inr (inr (is, some, to_is))) =
      inr (inr (tears_down publication asking request made (Some id) (in_session (asks.TearDown Target) methods.TearDown asking same is), ap (stage_of id) to_is))
  moves before asking request reply target.Recording to made same room (inl (is, to_is)) =
      inl (keeps publication asking request made (Some id) (in_session (asks.KeepAlive Target) methods.Options asking same is), ap (stage_of id) to_is)
  moves before asking request reply target.Recording to made same room (inr (is, to_is)) =
      inr (tears_down publication asking request made (Some id) (in_session (asks.TearDown Target) methods.TearDown asking same is), ap (stage_of id) to_is)
  moves before asking request reply target.Ended to made same room never = absurd never

  -- the entries of the connection are the course
  pub publishes : (later start : History) (askings : List Asking) (stage : target.Stage) → IsCourse (track_count publication) own askings stage → HaveIdentifier id askings
      → AreAskedBy seats conn publication id later start askings → Publishes seats conn publication later start (stage_of id stage)
  publishes [] start askings stage course same none =
      ap (stage_of id) (subst (λ (xs : List Asking). IsCourse (track_count publication) own xs stage) none course)
  publishes (entry ∷ later) start askings stage course same (inl (other, rest)) = inl (other, publishes later start askings stage course same rest)
  publishes (entry ∷ later) start askings stage course same (inr (asking, before, is, asked, rest)) =
      let here : IsCourse (track_count publication) own (asking ∷ before) stage = subst (λ (xs : List Asking). IsCourse (track_count publication) own xs stage) is course in
      let same_here : HaveIdentifier id (asking ∷ before) = subst (λ (xs : List Asking). HaveIdentifier id xs) is same in
      inr (
        stage_of id here.0,
        record {
          request = asked.request;
          given = asked.given;
          reply = asked.reply;
          act = asked.act;
          is = asked.is;
          moves = moves (later ++ start) asking asked.request asked.reply here.0 stage asked.made same_here.0 asked.room here.1;
        },
        publishes later start before here.0 here.2 same_here.1 rest,
      )
