-- What the checks of a request find out in the tables, and what its answer changes in them.
use Rattle.std.specs.Prelude.{◌≡◌, ℕ, Bool, ◌↔◌, [], ◌+◌, ◌-◌, ◌^◌, ◌<◌, ◌==◌, List, ◌⊎◌, replicate, slice_set, Option, None, Some, IsSome, codes}
use Rattle.rtsp_message.specs.declared.request.Request as messages
use Rattle.rtsp_message.specs.declared.reply.Reply.{Reply}
use Rattle.sdp.specs.declared.sections.Sections.{Sections}
use Rattle.sdp.specs.Readings.{Reads}
use Rattle.transport_header.specs.declared.spec.Spec.{Spec}
use Rattle.transport_header.specs.declared.spec.ChannelPair.{ChannelPair}
use Rattle.std.specs.List.{Contains}
use Rattle.rtsp_message.specs.declared.status.Status.TheVariants.{Ok}
use Rattle.transport_header.specs.declared.chosen.Chosen.{Chosen}
use Rattle.transport_header.specs.Chosen.{IsChosen, IsFirstAcceptable, transport_text}
use Rattle.transport_header.specs.Session.{identifier_text}
use Rattle.transport_header.specs.Tracks.{IsOfOther, MayHave}
use Rattle.transport_header.specs.Transport.{specs_of}
use Rattle.mounts.specs.declared.mount.Mount.{Mount}
use Rattle.mounts.specs.declared.target.Target.{Target}
use Rattle.mounts.specs.declared.uri.Uri.TheVariants.{At}
use Rattle.mounts.specs.Mounts.{HasRoom, Table, named, numbered, owned_by}
use Rattle.mounts.specs.Names.{EndsInTrack, IsName}
use Rattle.mounts.specs.Uri.{IsUri}
use Rattle.session_state.specs.declared.checks.accepted.Accepted.{Accepted}
use Rattle.session_state.specs.declared.checks.accepted.Accepted.TheVariants as found
use Rattle.session_state.specs.declared.act.Act.{Act}
use Rattle.session_state.specs.declared.act.Act.TheVariants as acts
use Rattle.session_state.specs.declared.world.change.Change.{Change}
use Rattle.session_state.specs.declared.world.change.Change.TheVariants as changes
use Rattle.session_state.specs.declared.given.Given.{Given}
use Rattle.session_state.specs.declared.method.Method.{Method}
use Rattle.session_state.specs.declared.method.Method.TheVariants as methods
use Rattle.session_state.specs.declared.session.Session.{Session}
use Rattle.session_state.specs.declared.session.State.{State}
use Rattle.session_state.specs.declared.session.State.TheVariants.{Ready}
use Rattle.session_state.specs.History.{History}
use Rattle.session_state.specs.Methods.{method_of}
use Rattle.session_state.specs.Lookups.{sessions_begun}
use Rattle.session_state.specs.Streams.{SetsUp}
use Rattle.session_state.specs.Stands.{Tables, session_kept}
use Rattle.session_state.specs.Checks.{Asked, NamesInSession, NamesMount, PassesAll, checks_of, field, state_in}
use Rattle.session_state.specs.Legal.{IsAnswered, IsRefusedBy}
use Rattle.session_state.specs.Replies.{IsAccepted, IsPlayAct, IsPlayed, IsSetUp, identifier_of, no_fields, pause_act, record_act, teardown_act}

-- a request, and what the tables tell for it
abbrev pub asked_of : Tables → History → (conn : ℕ) → messages.Request → Asked
asked_of tables history conn request =
    record { seats = tables.mounts.seats; history = history; conn = conn; request = request; mounts = tables.mounts.mounts; session = session_kept tables conn }

-- the reply that a request gets after a history, by what the tables tell
abbrev pub IsReplyIn : Tables → History → (conn : ℕ) → messages.Request → Given → Reply → Type 0
IsReplyIn tables history conn request given reply = (act : Act) × IsAnswered (asked_of tables history conn request) given reply act

abbrev pub method_in : Accepted → Method
method_in found.Options = methods.Options
method_in found.GetParameter = methods.GetParameter
method_in (found.Describe target mount) = methods.Describe
method_in (found.Announce target description) = methods.Announce
method_in (found.Setup mount track specs) = methods.Setup
method_in (found.Play target track) = methods.Play
method_in found.Record = methods.Record
method_in found.Pause = methods.Pause
method_in found.Teardown = methods.Teardown

-- PLAY takes a seat where the session hasn't one
abbrev pub play_change : Option State → Change
play_change (Some Ready) = changes.Play
play_change state = changes.Nothing

-- A mount of a name can be made for a connection.
pub record HasPlaceFor (table : Table) (conn : ℕ) (name : List ℕ) : Type 0 where
  pub room : HasRoom table
  pub name_is : IsName name
  pub no_track : EndsInTrack name → ⊥
  pub free : named name table.mounts ≡ None
  pub first : owned_by conn table.mounts ≡ None

-- the connection has a session, or a number is left for one
abbrev pub HasNumberLeft : Tables → (conn : ℕ) → Type 0
HasNumberLeft tables conn = IsSome (session_kept tables conn) ⊎ (tables.begun < 2 ^ 32 - 1)

-- what was found is there in the tables
abbrev pub IsThere : Tables → (conn : ℕ) → Accepted → Type 0
IsThere tables conn (found.Describe target number) = IsSome (numbered number tables.mounts.mounts)
IsThere tables conn (found.Announce target description) = HasPlaceFor tables.mounts conn target.path
IsThere tables conn (found.Setup number track specs) = IsSome (numbered number tables.mounts.mounts) × (track < 16) × ((spec : Spec) × IsFirstAcceptable specs spec) × HasNumberLeft tables conn
IsThere tables conn (found.Play target track) = IsSome (session_kept tables conn)
IsThere tables conn accepted = Unit {0}

-- what the tables need for a change
abbrev pub CanTake : Tables → (conn : ℕ) → Change → Type 0
CanTake tables conn (changes.Announce name description) = HasPlaceFor tables.mounts conn name
CanTake tables conn (changes.SetUp track pair) = (track < 16) × ((session : Session) → session_kept tables conn ≡ Some session → MayHave session.channels track pair)
CanTake tables conn (changes.Begin session) = tables.begun < 2 ^ 32 - 1
CanTake tables conn change = Unit {0}

module _ (asked : Asked) where
  -- what was found is what the request says
  abbrev pub Finds : Accepted → Type 0
  Finds (found.Describe target number) = (mount : Mount) × NamesMount asked target mount × (mount.number ≡ number)
  Finds (found.Announce target description) = IsUri asked.request.uri (At target) × Reads asked.request.body description
  Finds (found.Setup number track specs) = (mount : Mount) × (mount.number ≡ number) × SetsUp asked.mounts asked.conn asked.request.uri mount track
      × (text : List ℕ) × (field asked (codes "Transport") ≡ Some text) × (specs ≡ specs_of text)
  Finds (found.Play target track) = (session : Session) × NamesInSession asked session target track
  Finds accepted = Unit {0}

  -- The request passes all its checks, and this was found out.
  pub record IsFine (accepted : Accepted) : Type 0 where
    pub method_is : method_of asked.request.method ≡ Some (method_in accepted)
    pub passes : PassesAll asked (checks_of (Some (method_in accepted)))
    pub finds : Finds accepted

  -- ANNOUNCE makes a mount of the URI's path and the body
  pub record IsAnnouncing (change : Change) : Type 0 where
    pub target : Target
    pub description : Sections
    pub uri : IsUri asked.request.uri (At target)
    pub body : Reads asked.request.body description
    pub is : change ≡ changes.Announce target.path description

  -- SETUP begins a session, or gives a track of it channels
  abbrev pub IsSettingUp : Given → Mount → (track : ℕ) → ChannelPair → Option Session → Change → Type 0
  IsSettingUp given mount track pair None change =
      change ≡ changes.Begin (record { number = sessions_begun asked.history + 1; word = given.word; mount = mount.number; name = mount.name; recording = mount.owner == asked.conn; channels = slice_set (replicate 16 None) track (Some pair); state = Ready })
  IsSettingUp given mount track pair (Some session) change = change ≡ changes.SetUp track pair

  abbrev pub SetsUpBy : Given → Reply → Change → Type 0
  SetsUpBy given reply change = (is : IsSetUp asked given reply)
      × IsSettingUp given is.mount is.track (record { first = is.chosen.rtp; second = is.chosen.rtcp }) asked.session change

  -- what an accepted request is answered, and what that changes
  abbrev pub IsAcceptedWith : Method → Given → Reply → Change → Type 0
  IsAcceptedWith methods.Announce given reply change = IsAccepted asked methods.Announce given reply acts.Open × IsAnnouncing change
  IsAcceptedWith methods.Setup given reply change = SetsUpBy given reply change
  IsAcceptedWith methods.Play given reply change =
      ((session : Session) (act : Act) → asked.session ≡ Some session → IsPlayAct asked session.mount session.state act → IsPlayed asked given reply act)
      × (change ≡ play_change (state_in asked.session))
  IsAcceptedWith methods.Record given reply change = ((act : Act) → act ≡ record_act (state_in asked.session) → IsAccepted asked methods.Record given reply act) × (change ≡ changes.Record)
  IsAcceptedWith methods.Pause given reply change = ((act : Act) → act ≡ pause_act asked.session → IsAccepted asked methods.Pause given reply act) × (change ≡ changes.Pause)
  IsAcceptedWith methods.Teardown given reply change = ((act : Act) → act ≡ teardown_act asked.session → IsAccepted asked methods.Teardown given reply act) × (change ≡ changes.Teardown)
  IsAcceptedWith method given reply change = IsAccepted asked method given reply acts.None × (change ≡ changes.Nothing)

  -- A request is answered so, and this is changed.
  abbrev pub IsJudged : Given → Reply → Change → Type 0
  IsJudged given reply change =
      (IsRefusedBy asked reply acts.None × (change ≡ changes.Nothing))
      ⊎ ((method : Method) × (method_of asked.request.method ≡ Some method) × PassesAll asked (checks_of (Some method)) × IsAcceptedWith method given reply change)

abbrev pub pair_of : Chosen → ChannelPair
pair_of chosen = record { first = chosen.rtp; second = chosen.rtcp }

-- Channels chosen for a track beside those of a session's other tracks.
pub record IsChosenFor (specs : List Spec) (channels : List (Option ChannelPair)) (track : ℕ) (chosen : Chosen) : Type 0 where
  pub used : List ℕ
  pub others : (channel : ℕ) → Contains used channel ↔ IsOfOther channels track channel
  pub is_chosen : IsChosen specs used (Some chosen)
  pub may_have : MayHave channels track (pair_of chosen)

-- A reply gives a track channels.
pub record GivesChannels (specs : List Spec) (channels : List (Option ChannelPair)) (track : ℕ) (request : messages.Request) (identifier : List ℕ) (recording : Bool) (reply : Reply) : Type 0 where
  pub chosen : Chosen
  pub is_for : IsChosenFor specs channels track chosen
  pub is : reply ≡ record { status = Ok; cseq = request.cseq; fields = record no_fields { session = Some identifier; transport = Some (transport_text (record chosen { recording = recording })) }; body = [] }

-- SETUP in a session
abbrev pub GivesMore : List Spec → Session → (track : ℕ) → messages.Request → (recording : Bool) → Reply → Change → Type 0
GivesMore specs session track request recording reply change =
    (gives : GivesChannels specs session.channels track request (identifier_of session) recording reply) × (change ≡ changes.SetUp track (pair_of gives.chosen))

-- SETUP that begins a session
abbrev pub GivesFirst : List Spec → (number word : ℕ) → Mount → (track : ℕ) → messages.Request → (recording : Bool) → Reply → Change → Type 0
GivesFirst specs number word mount track request recording reply change =
    (gives : GivesChannels specs (replicate 16 None) track request (identifier_text number word) recording reply)
    × (change ≡ changes.Begin (record { number = number; word = word; mount = mount.number; name = mount.name; recording = recording; channels = slice_set (replicate 16 None) track (Some (pair_of gives.chosen)); state = Ready }))
