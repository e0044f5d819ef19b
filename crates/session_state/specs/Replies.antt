-- What a request is answered (RFC 2326, 7, 10, 11 and 12).
use Rattle.std.specs.Prelude.{◌≡◌, ℕ, ◌+◌, ◌<◌, zero, suc, ◌==◌, Bool, true, false, if◌then◌else◌, List, [], ◌∷◌, ◌++◌, ◌↔◌, get_or, replicate, Option, None, Some, codes}
use Rattle.std.specs.List.{Contains}
use Rattle.std.specs.Option.{option_map, option_and_then, unwrap_or}
use Rattle.rtsp_message.specs.declared.request.Request as messages
use Rattle.rtsp_message.specs.declared.reply.Reply.{Reply}
use Rattle.rtsp_message.specs.Headers.{value_of}
use Rattle.rtsp_message.specs.declared.reply.Fields.{Fields}
use Rattle.rtsp_message.specs.declared.status.Status.{Status}
use Rattle.rtsp_message.specs.declared.status.Status.TheVariants as statuses
use Rattle.sdp.specs.Written.{description_text, track_control}
use Rattle.transport_header.specs.declared.chosen.Chosen.{Chosen}
use Rattle.transport_header.specs.declared.point.Point.{Point}
use Rattle.transport_header.specs.declared.rtp_info.InfoEntry.{InfoEntry}
use Rattle.transport_header.specs.declared.spec.ChannelPair.{ChannelPair}
use Rattle.transport_header.specs.Chosen.{IsChosen, transport_text}
use Rattle.transport_header.specs.RtpInfo.{rtp_info_text}
use Rattle.transport_header.specs.Session.{identifier_text}
use Rattle.transport_header.specs.Tracks.{IsOfOther, pair_at}
use Rattle.transport_header.specs.Transport.{specs_of}
use Rattle.mounts.specs.declared.mount.Mount.{Mount}
use Rattle.mounts.specs.declared.target.Target.{Target}
use Rattle.mounts.specs.Uri.{resource_text}
use Rattle.session_state.specs.declared.act.Act.{Act}
use Rattle.session_state.specs.declared.act.Act.TheVariants as acts
use Rattle.session_state.specs.declared.given.Given.{Given}
use Rattle.session_state.specs.declared.checks.Check.{Check}
use Rattle.session_state.specs.declared.checks.Check.TheVariants.{HasCSeq, HasVersion, HasMethod, RequiresNothing, HasUri, HasItsSession, NamesAStream, FitsState, HasNoBody, AcceptsSdp, MayAnnounce, HasSdpType, IsDescription, HasFewTracks, HasRoomForMount, OwnsNoOther, NamesATrack, HasTransport, MayRecord, HasRoomForSession, IsForPlaying, IsForRecording, IsAggregate, HasFreeSeat}
use Rattle.session_state.specs.declared.method.Method.{Method}
use Rattle.session_state.specs.declared.method.Method.TheVariants as methods
use Rattle.session_state.specs.declared.session.Session.{Session}
use Rattle.session_state.specs.declared.session.State.{State}
use Rattle.session_state.specs.declared.session.State.TheVariants.{Ready, Playing, Recording}
use Rattle.session_state.specs.Methods.{public_methods}
use Rattle.session_state.specs.Fields.{sdp_type}
use Rattle.session_state.specs.Lookups.{sessions_begun}
use Rattle.session_state.specs.Streams.{SetsUp, is_out}
use Rattle.session_state.specs.Checks.{Asked, NamesInSession, NamesMount, field, state_in}

-- the status that a check which isn't passed gives
abbrev pub status_of : Check → Status
status_of HasCSeq = statuses.BadRequest
status_of HasVersion = statuses.VersionNotSupported
status_of HasMethod = statuses.NotImplemented
status_of RequiresNothing = statuses.OptionNotSupported
status_of (HasUri method) = statuses.BadRequest
status_of (HasItsSession method) = statuses.SessionNotFound
status_of (NamesAStream method) = statuses.NotFound
status_of (FitsState method) = statuses.MethodNotValidInThisState
status_of HasNoBody = statuses.ParameterNotUnderstood
status_of AcceptsSdp = statuses.NotAcceptable
status_of MayAnnounce = statuses.Forbidden
status_of HasSdpType = statuses.UnsupportedMediaType
status_of IsDescription = statuses.BadRequest
status_of HasFewTracks = statuses.RequestEntityTooLarge
status_of HasRoomForMount = statuses.ServiceUnavailable
status_of OwnsNoOther = statuses.Forbidden
status_of NamesATrack = statuses.AggregateOperationNotAllowed
status_of HasTransport = statuses.UnsupportedTransport
status_of MayRecord = statuses.Forbidden
status_of HasRoomForSession = statuses.ServiceUnavailable
status_of IsForPlaying = statuses.Forbidden
status_of IsForRecording = statuses.Forbidden
status_of IsAggregate = statuses.OnlyAggregateOperationAllowed
status_of HasFreeSeat = statuses.NotEnoughBandwidth

-- nothing is told of the session up to the check that it is named
abbrev pub tells_session : Check → Bool
tells_session HasCSeq = false
tells_session HasVersion = false
tells_session HasMethod = false
tells_session RequiresNothing = false
tells_session (HasUri method) = false
tells_session (HasItsSession method) = false
tells_session check = true

-- no field but CSeq
abbrev pub no_fields : Fields
no_fields = record { session = None; public = None; allow = None; unsupported = None; transport = None; rtp_info = None; content_base = None; content_type = None }

-- the methods that are allowed in a state (RFC 2326, 12.4 and A.2)
abbrev pub allowed_in : Option State → Option (List ℕ)
allowed_in (Some Ready) = Some (codes "OPTIONS, DESCRIBE, GET_PARAMETER, SETUP, PLAY, RECORD, TEARDOWN")
allowed_in (Some (Playing seat)) = Some (codes "OPTIONS, DESCRIBE, GET_PARAMETER, PLAY, PAUSE, TEARDOWN")
allowed_in (Some Recording) = Some (codes "OPTIONS, DESCRIBE, GET_PARAMETER, RECORD, PAUSE, TEARDOWN")
allowed_in None = None

abbrev pub identifier_of : Session → List ℕ
identifier_of session = identifier_text session.number session.word

-- RECORD from Ready begins to publish (RFC 2326, 10.11)
abbrev pub record_act : Option State → Act
record_act (Some Ready) = acts.Record
record_act state = acts.None

-- PAUSE from Playing gives the seat up (RFC 2326, 10.6)
abbrev pub stop_in : (mount : ℕ) → State → Act
stop_in mount (Playing seat) = acts.Stop mount seat
stop_in mount state = acts.None

abbrev pub pause_act : Option Session → Act
pause_act None = acts.None
pause_act (Some session) = stop_in session.mount session.state

-- TEARDOWN ends the session, and the mount of a recording one (RFC 2326, 10.7)
abbrev pub teardown_act : Option Session → Act
teardown_act None = acts.None
teardown_act (Some session) = if session.recording then acts.End else pause_act (Some session)

-- the channels of a session's tracks: none before it begins
abbrev pub channels_in : Option Session → List (Option ChannelPair)
channels_in None = replicate 16 None
channels_in (Some session) = session.channels

-- the session that a request named by a Session field (RFC 2326, 12.37)
abbrev pub told_to : messages.Request → Option Session → Option (List ℕ)
told_to request session = option_and_then (λ text. option_map identifier_of session) (value_of request.headers (codes "Session"))

-- RTP-Info of a track that is set up and has a point (RFC 2326, 12.33)
abbrev pub info_of : (url : List ℕ) → Option ChannelPair → Option Point → List InfoEntry
info_of url (Some pair) (Some point) = record { url = url; sequence = point.seq; timestamp = point.rtptime } ∷ []
info_of url pair point = []

abbrev pub info_at : Session → (url : ℕ → List ℕ) → List (Option Point) → (track : ℕ) → List InfoEntry
info_at session url points track = info_of (url track) (pair_at session.channels track) (get_or points track None)

-- so many tracks from one on, in rising order
abbrev pub infos : (ℕ → List InfoEntry) → (track count : ℕ) → List InfoEntry
infos info track zero = []
infos info track (suc count) = info track ++ infos info (track + 1) count

abbrev pub info_field : List InfoEntry → Option (List ℕ)
info_field [] = None
info_field (entry ∷ entries) = Some (rtp_info_text (entry ∷ entries))

-- the URL of a track: below the base, or the request's own where it names the track
abbrev pub url_for : (uri : List ℕ) → Target → Option ℕ → (track : ℕ) → List ℕ
url_for uri target None track = target.base ++ track_control track
url_for uri target (Some named) track = resource_text uri

module _ (asked : Asked) where
  abbrev pub told_session : Option (List ℕ)
  told_session = told_to asked.request asked.session

  -- the methods that are allowed, where the method isn't
  abbrev pub allow_of : Check → Option (List ℕ)
  allow_of (FitsState method) = allowed_in (state_in asked.session)
  allow_of check = None

  -- the options that are required
  abbrev pub unsupported_of : Check → Option (List ℕ)
  unsupported_of RequiresNothing = field asked (codes "Require")
  unsupported_of check = None

  -- the fields of a refusal
  abbrev pub fields_of : Check → Fields
  fields_of check = record no_fields { session = if tells_session check then told_session else None; allow = allow_of check; unsupported = unsupported_of check }

  abbrev pub refusal : Check → Reply
  refusal check = record { status = status_of check; cseq = asked.request.cseq; fields = fields_of check; body = [] }

  -- a reply that accepts the request
  abbrev pub accepting : Fields → (body : List ℕ) → Reply
  accepting fields body = record { status = statuses.Ok; cseq = asked.request.cseq; fields = fields; body = body }

  -- DESCRIBE: the description, and the base of its controls (RFC 2326, 10.2 and C.1.1)
  abbrev pub IsDescribed : Reply → Type 0
  IsDescribed reply = (target : Target) × (mount : Mount) × NamesMount asked target mount
      × (reply ≡ accepting (record no_fields { session = told_session; content_base = Some target.base; content_type = Some sdp_type }) (description_text mount.description))

  -- the identifier of the session: of the one that there is, or of the one that begins
  abbrev pub identifier_told : Given → List ℕ
  identifier_told given = unwrap_or (option_map identifier_of asked.session) (identifier_text (sessions_begun asked.history + 1) given.word)

  -- SETUP: the session, and the channels of the track (RFC 2326, 10.4 and 12.39). A channel is used where another track has it.
  pub record IsSetUp (given : Given) (reply : Reply) : Type 0 where
    pub mount : Mount
    pub track : ℕ
    pub sets_up : SetsUp asked.mounts asked.conn asked.request.uri mount track
    pub text : List ℕ
    pub transport : field asked (codes "Transport") ≡ Some text
    pub used : List ℕ
    pub others : (channel : ℕ) → Contains used channel ↔ IsOfOther (channels_in asked.session) track channel
    pub chosen : Chosen
    pub is_chosen : IsChosen (specs_of text) used (Some chosen)
    pub is : reply ≡ accepting (record no_fields { session = Some (identifier_told given); transport = Some (transport_text (record chosen { recording = mount.owner == asked.conn })) }) []

  -- PLAY from Ready takes a free seat, any one; in Playing the seat is kept
  abbrev pub IsPlayAct : (mount : ℕ) → State → Act → Type 0
  IsPlayAct mount Ready act = (seat : ℕ) × (seat < asked.seats) × (is_out mount seat asked.history ≡ false) × (act ≡ acts.Play mount seat)
  IsPlayAct mount state act = act ≡ acts.None

  -- PLAY (RFC 2326, 10.5)
  pub record IsPlayed (given : Given) (reply : Reply) (act : Act) : Type 0 where
    pub session : Session
    pub target : Target
    pub track : Option ℕ
    pub names : NamesInSession asked session target track
    pub is : reply ≡ accepting (record no_fields { session = told_session; rtp_info = info_field (infos (info_at session (url_for asked.request.uri target track) given.points) 0 16) }) []
    pub does : IsPlayAct session.mount session.state act

  -- what an accepted request is answered, and what is done
  abbrev pub IsAccepted : Method → Given → Reply → Act → Type 0
  IsAccepted methods.Options given reply act = (reply ≡ accepting (record no_fields { session = told_session; public = Some public_methods }) []) × (act ≡ acts.None)
  IsAccepted methods.GetParameter given reply act = (reply ≡ accepting (record no_fields { session = told_session }) []) × (act ≡ acts.None)
  IsAccepted methods.Describe given reply act = IsDescribed reply × (act ≡ acts.None)
  IsAccepted methods.Announce given reply act = (reply ≡ accepting (record no_fields { session = told_session }) []) × (act ≡ acts.Open)
  IsAccepted methods.Setup given reply act = IsSetUp given reply × (act ≡ acts.None)
  IsAccepted methods.Play given reply act = IsPlayed given reply act
  IsAccepted methods.Record given reply act = (reply ≡ accepting (record no_fields { session = told_session }) []) × (act ≡ record_act (state_in asked.session))
  IsAccepted methods.Pause given reply act = (reply ≡ accepting (record no_fields { session = told_session }) []) × (act ≡ pause_act asked.session)
  IsAccepted methods.Teardown given reply act = (reply ≡ accepting (record no_fields { session = told_session }) []) × (act ≡ teardown_act asked.session)
