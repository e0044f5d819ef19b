-- What a request is checked for, in order: the first check that it doesn't pass decides how it is refused (RFC 2326, 10, 11.3
-- and 12). The order is defined here, by `checks_of`; `later_checks` in `Asking` is the part of it after HasMethod.
--
-- The files of `src/checks` make the checks: `any_request` those up to HasUri, `session_and_state` HasItsSession and FitsState,
-- `named_mount` (DESCRIBE and SETUP) and `named_session` (PLAY, RECORD, PAUSE and TEARDOWN) NamesAStream, and of a method's own
-- `announce` those of ANNOUNCE, `setup` those of SETUP, `playing` those of PLAY, RECORD, PAUSE and TEARDOWN, and `by_method`
-- the others. `by_method` puts all of them in this order.
use Rattle.std.specs.Prelude.{◌≡◌, ℕ, ◌-◌, ◌^◌, ◌<◌, ◌==◌, Bool, true, false, List, [], ◌∷◌, ◌⊎◌, length, Option, None, Some, IsSome, codes}
use Rattle.rtsp_message.specs.declared.request.Request as messages
use Rattle.rtsp_message.specs.Headers.{value_of}
use Rattle.sdp.specs.declared.fault.SdpFault.TheVariants.{TooManyTracks}
use Rattle.sdp.specs.declared.sections.Sections.{Sections}
use Rattle.sdp.specs.Readings.{Reads, IsRefused}
use Rattle.sdp.specs.Written.{track_control}
use Rattle.transport_header.specs.declared.spec.Spec.{Spec}
use Rattle.transport_header.specs.declared.spec.Mode.TheVariants as modes
use Rattle.transport_header.specs.Chosen.{IsFirstAcceptable}
use Rattle.transport_header.specs.Session.{identifier_in, identifier_text}
use Rattle.transport_header.specs.Tracks.{pair_at}
use Rattle.transport_header.specs.Transport.{specs_of}
use Rattle.mounts.specs.declared.mount.Mount.{Mount}
use Rattle.mounts.specs.declared.target.Target.{Target}
use Rattle.mounts.specs.declared.uri.Uri.{Uri}
use Rattle.mounts.specs.declared.uri.Uri.TheVariants.{Star, At}
use Rattle.mounts.specs.Mounts.{named, numbered, owned_by}
use Rattle.mounts.specs.Names.{EndsInTrack, GoesOn, IsName}
use Rattle.mounts.specs.Tracks.{IsNamedBy, IsNamedByOwner}
use Rattle.mounts.specs.Uri.{IsUri}
use Rattle.session_state.specs.declared.checks.Check.{Check}
use Rattle.session_state.specs.declared.checks.Check.TheVariants.{HasCSeq, HasVersion, HasMethod, RequiresNothing, HasUri, HasItsSession, NamesAStream, FitsState, HasNoBody, AcceptsSdp, MayAnnounce, HasSdpType, IsDescription, HasFewTracks, HasRoomForMount, OwnsNoOther, NamesATrack, HasTransport, MayRecord, HasRoomForSession, IsForPlaying, IsForRecording, IsAggregate, HasFreeSeat}
use Rattle.session_state.specs.declared.method.Method.{Method}
use Rattle.session_state.specs.declared.method.Method.TheVariants.{Options, Describe, Announce, Setup, Play, Pause, Record, Teardown, GetParameter}
use Rattle.session_state.specs.declared.session.Session.{Session}
use Rattle.session_state.specs.declared.session.State.{State}
use Rattle.session_state.specs.declared.session.State.TheVariants.{Ready, Playing, Recording}
use Rattle.session_state.specs.Methods.{method_of, is_announce}
use Rattle.session_state.specs.Fields.{accepts_sdp, is_sdp}
use Rattle.session_state.specs.History.{History, accepts, how_many}
use Rattle.session_state.specs.Lookups.{IsSessionOf, sessions_begun}
use Rattle.session_state.specs.Streams.{AreLive, IsSetUpOn, SetsUp, is_out}

-- A request of a connection, and what the history so far tells for it: the mounts that live, and the connection's session.
pub record Asked : Type 0 where
  pub seats : ℕ
  pub history : History
  pub conn : ℕ
  pub request : messages.Request
  pub mounts : List Mount
  pub session : Option Session

pub record LooksUp (asked : Asked) : Type 0 where
  pub mounts : AreLive asked.seats asked.history asked.mounts
  pub session : IsSessionOf asked.seats asked.conn asked.history asked.session

-- a method's own checks
abbrev pub own_checks : Method → List Check
own_checks Options = []
own_checks GetParameter = HasNoBody ∷ []
own_checks Describe = AcceptsSdp ∷ []
own_checks Announce = MayAnnounce ∷ HasSdpType ∷ IsDescription ∷ HasFewTracks ∷ HasRoomForMount ∷ []
own_checks Setup = OwnsNoOther ∷ NamesATrack ∷ HasTransport ∷ MayRecord ∷ HasRoomForSession ∷ []
own_checks Play = IsForPlaying ∷ IsAggregate ∷ HasFreeSeat ∷ []
own_checks Record = IsForRecording ∷ IsAggregate ∷ []
own_checks Pause = IsAggregate ∷ []
own_checks Teardown = IsAggregate ∷ []

-- all checks of a request, in order
abbrev pub checks_of : Option Method → List Check
checks_of None = HasCSeq ∷ HasVersion ∷ HasMethod ∷ []
checks_of (Some method) =
    HasCSeq ∷ HasVersion ∷ HasMethod ∷ RequiresNothing ∷ HasUri method ∷ HasItsSession method ∷ NamesAStream method ∷ FitsState method ∷ own_checks method

-- `*` names the server, which OPTIONS and GET_PARAMETER may ask (RFC 2326, 10.1 and 10.8)
abbrev pub MayBeAsked : Method → Uri → Type 0
MayBeAsked method (At target) = Unit {0}
MayBeAsked Options Star = Unit {0}
MayBeAsked GetParameter Star = Unit {0}
MayBeAsked method Star = ⊥

-- a text names a session by its identifier (RFC 2326, 12.37)
abbrev pub NamesSession : List ℕ → Option Session → Type 0
NamesSession text None = ⊥
NamesSession text (Some session) = identifier_in text ≡ identifier_text session.number session.word

-- where a Session field is needed
abbrev pub NeedsSession : Method → Option Session → Type 0
NeedsSession Play session = Unit {0}
NeedsSession Record session = Unit {0}
NeedsSession Pause session = Unit {0}
NeedsSession Teardown session = Unit {0}
NeedsSession Setup session = IsSome session
NeedsSession method session = ⊥

-- the states that a method is allowed in (RFC 2326, A.2); Init is no session
abbrev pub fits : Method → Option State → Bool
fits Setup None = true
fits Setup (Some Ready) = true
fits Setup state = false
fits Announce None = true
fits Announce state = false
fits Play (Some Ready) = true
fits Play (Some (Playing seat)) = true
fits Play state = false
fits Record (Some Ready) = true
fits Record (Some Recording) = true
fits Record state = false
fits Pause (Some (Playing seat)) = true
fits Pause (Some Recording) = true
fits Pause state = false
fits method state = true

abbrev pub state_in : Option Session → Option State
state_in None = None
state_in (Some session) = Some session.state

module _ (asked : Asked) where
  -- the value of a field of the request
  abbrev pub field : List ℕ → Option (List ℕ)
  field name = value_of asked.request.headers name

  -- A Session field names the connection's session, and stands where one is needed.
  pub record NamesItsSession (method : Method) : Type 0 where
    pub named : (text : List ℕ) → field (codes "Session") ≡ Some text → NamesSession text asked.session
    pub needed : NeedsSession method asked.session → IsSome (field (codes "Session"))

  -- The URI names a mount that lives.
  pub record NamesMount (target : Target) (mount : Mount) : Type 0 where
    pub uri : IsUri asked.request.uri (At target)
    pub is : named target.path asked.mounts ≡ Some mount

  -- The URI of a SETUP names a mount that lives or one of its tracks, and where there is a session, its mount.
  pub record NamesForSetup (target : Target) (mount : Mount) (rest : Option (List ℕ)) : Type 0 where
    pub uri : IsUri asked.request.uri (At target)
    pub on : IsSetUpOn asked.mounts asked.conn target.path mount.number rest
    pub is : numbered mount.number asked.mounts ≡ Some mount
    pub track : (text : List ℕ) → rest ≡ Some text → (track : ℕ) × IsNamedBy (mount.owner == asked.conn) target text mount.description.tracks track
    pub same : (session : Session) → asked.session ≡ Some session → session.mount ≡ mount.number

  -- the rest of a path names a track of the session's mount: by what was announced where the connection owns that
  abbrev pub NamesTrackOf : Session → Target → (rest : List ℕ) → (track : ℕ) → Type 0
  NamesTrackOf session target rest track =
      ((session.recording ≡ true) × (mount : Mount) × (numbered session.mount asked.mounts ≡ Some mount) × IsNamedByOwner target rest mount.description.tracks track)
      ⊎ ((session.recording ≡ false) × (rest ≡ track_control track))

  -- the URI names the session's mount, or a track that the session has set up
  abbrev pub NamesOfSession : Session → Target → (track : Option ℕ) → Type 0
  NamesOfSession session target None = target.path ≡ session.name
  NamesOfSession session target (Some track) =
      (rest : List ℕ) × GoesOn target.path session.name (Some rest) × NamesTrackOf session target rest track × IsSome (pair_at session.channels track)

  pub record NamesInSession (session : Session) (target : Target) (track : Option ℕ) : Type 0 where
    pub has : asked.session ≡ Some session
    pub uri : IsUri asked.request.uri (At target)
    pub names : NamesOfSession session target track

  abbrev pub NamesSome : Method → Type 0
  NamesSome Describe = (target : Target) × (mount : Mount) × NamesMount target mount
  NamesSome Setup = (target : Target) × (mount : Mount) × (rest : Option (List ℕ)) × NamesForSetup target mount rest
  NamesSome Play = (session : Session) × (target : Target) × (track : Option ℕ) × NamesInSession session target track × IsSome (numbered session.mount asked.mounts)
  NamesSome Record = (session : Session) × (target : Target) × (track : Option ℕ) × NamesInSession session target track × IsSome (numbered session.mount asked.mounts)
  NamesSome Pause = (session : Session) × (target : Target) × (track : Option ℕ) × NamesInSession session target track
  NamesSome Teardown = (session : Session) × (target : Target) × (track : Option ℕ) × NamesInSession session target track
  NamesSome method = Unit {0}

  -- The connection owns no mount, and the path is a name that no mount has, and no track's (RFC 2326, 10.3).
  pub record IsFreeName (target : Target) : Type 0 where
    pub uri : IsUri asked.request.uri (At target)
    pub first : owned_by asked.conn asked.mounts ≡ None
    pub name : IsName target.path
    pub plain : EndsInTrack target.path → ⊥
    pub free : named target.path asked.mounts ≡ None

  -- the mounts so far are few, and numbers are left
  pub record HasMountLeft : Type 0 where
    pub few : length asked.mounts < 64
    pub left : how_many (accepts is_announce) asked.history < 2 ^ 63

  -- the first spec of the Transport field that is acceptable
  abbrev pub AsksFor : Spec → Type 0
  AsksFor spec = (text : List ℕ) × (field (codes "Transport") ≡ Some text) × IsFirstAcceptable (specs_of text) spec

  -- the URI names all of the session's tracks: the mount, or the only track
  abbrev pub NamesAll : Session → Option ℕ → Type 0
  NamesAll session None = Unit {0}
  NamesAll session (Some track) = (other : ℕ) → IsSome (pair_at session.channels other) → other ≡ track

  abbrev pub Passes : Check → Type 0
  Passes HasCSeq = IsSome asked.request.cseq
  Passes HasVersion = asked.request.version ≡ codes "RTSP/1.0"
  Passes HasMethod = IsSome (method_of asked.request.method)
  Passes RequiresNothing = field (codes "Require") ≡ None
  Passes (HasUri method) = (uri : Uri) × IsUri asked.request.uri uri × MayBeAsked method uri
  Passes (HasItsSession method) = NamesItsSession method
  Passes (NamesAStream method) = NamesSome method
  Passes (FitsState method) = fits method (state_in asked.session) ≡ true
  Passes HasNoBody = asked.request.body ≡ []
  Passes AcceptsSdp = (text : List ℕ) → field (codes "Accept") ≡ Some text → accepts_sdp text ≡ true
  Passes MayAnnounce = (target : Target) × IsFreeName target
  Passes HasSdpType = (text : List ℕ) → field (codes "Content-Type") ≡ Some text → is_sdp text ≡ true
  Passes IsDescription = ((description : Sections) × Reads asked.request.body description) ⊎ IsRefused asked.request.body TooManyTracks
  Passes HasFewTracks = (description : Sections) × Reads asked.request.body description
  Passes HasRoomForMount = HasMountLeft
  Passes OwnsNoOther = (target : Target) (mount : Mount) (rest : Option (List ℕ)) (own : Mount) → NamesForSetup target mount rest
      → owned_by asked.conn asked.mounts ≡ Some own → own.number ≡ mount.number
  Passes NamesATrack = (mount : Mount) × (track : ℕ) × SetsUp asked.mounts asked.conn asked.request.uri mount track
  Passes HasTransport = (spec : Spec) × AsksFor spec
  Passes MayRecord = (target : Target) (mount : Mount) (rest : Option (List ℕ)) (spec : Spec) → NamesForSetup target mount rest
      → AsksFor spec → spec.mode ≡ modes.Record → mount.owner ≡ asked.conn
  Passes HasRoomForSession = IsSome asked.session ⊎ (sessions_begun asked.history < 2 ^ 32 - 1)
  Passes IsForPlaying = (session : Session) → asked.session ≡ Some session → session.recording ≡ false
  Passes IsForRecording = (session : Session) → asked.session ≡ Some session → session.recording ≡ true
  Passes IsAggregate = (session : Session) × (target : Target) × (track : Option ℕ) × NamesInSession session target track × NamesAll session track
  Passes HasFreeSeat = (session : Session) → asked.session ≡ Some session → session.state ≡ Ready
      → (seat : ℕ) × (seat < asked.seats) × (is_out session.mount seat asked.history ≡ false)

  -- the check is the first of these that isn't passed
  abbrev pub FailsFirst : List Check → Check → Type 0
  FailsFirst [] check = ⊥
  FailsFirst (one ∷ others) check = ((check ≡ one) × (Passes one → ⊥)) ⊎ (Passes one × FailsFirst others check)

  abbrev pub PassesAll : List Check → Type 0
  PassesAll [] = Unit {0}
  PassesAll (one ∷ others) = Passes one × PassesAll others
