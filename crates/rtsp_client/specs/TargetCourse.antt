-- In what order a client asks its target, and with which Session header (RFC 2326, A.1).
use Rattle.std.specs.Prelude.{◌≡◌, ◌⊎◌, ◌<◌, ◌+◌, ℕ, zero, suc, List, [], ◌∷◌, ◌++◌, Option, Some, None, is_some}
use Rattle.std.specs.List.{Contains}
use Rattle.rtsp_client.specs.Clients.{State, asked_pair, method_of, new_client, number_at, repeats, session_at}
use Rattle.rtsp_client.specs.Runs.{Event, Goes, sends, runs_out, takes, is_described, is_undescribed, is_redirected, is_answered, is_ended, is_stopped, frame_comes, frames_leave, ticks, idles}
use Rattle.rtsp_client.specs.declared.ask.Ask.{Ask}
use Rattle.rtsp_client.specs.declared.ask.Method.{Method}
use Rattle.rtsp_client.specs.declared.ask.Method.TheVariants as methods
use Rattle.rtsp_client.specs.declared.asked.Asked.{Asked}
use Rattle.rtsp_client.specs.declared.asked.Asked.TheVariants as asks
use Rattle.rtsp_client.specs.declared.asked.Side.{Side}
use Rattle.rtsp_client.specs.declared.asked.Side.TheVariants.{Source, Target}
use Rattle.rtsp_client.specs.declared.requests.Reply.TheVariants.{Of}
use Rattle.rtsp_client.specs.declared.verdict.Verdict.TheVariants.{GoesOn}

-- a request to the target, and the identifier in its Session header, if it has one
pub record Asking : Type 0 where
  pub ask : Ask
  pub session : Option (List ℕ)

-- the request that is sent to a side in a state
abbrev pub ask_of : Side → Asked → State → Ask
ask_of side asked state = record {
  side = side;
  method = method_of asked state;
  asked = asked;
  number = number_at side state;
  has_session = is_some (session_at side state);
  is_repeat = repeats side state;
}

abbrev pub asking_of : Side → Asked → State → List Asking
asking_of Source asked state = []
asking_of Target asked state = record { ask = ask_of Target asked state; session = session_at Target state } ∷ []

-- the request that an event sends to the target, if it sends one
abbrev pub asking_at : Event → State → List Asking
asking_at (sends side asked number) state = asking_of side asked state
asking_at (runs_out side) state = []
asking_at (takes side reply) state = []
asking_at (is_described tracks) state = []
asking_at is_undescribed state = []
asking_at is_redirected state = []
asking_at (is_answered has) state = []
asking_at (is_ended end) state = []
asking_at is_stopped state = []
asking_at frame_comes state = []
asking_at (frames_leave frames) state = []
asking_at (ticks side) state = []
asking_at idles state = []

-- A client is this after these events, and has sent these requests to its target. The last of each is the first of its list.
abbrev pub HasAsked : List Event → List Asking → State → Type 0
HasAsked [] askings state = (askings ≡ []) × (state ≡ new_client)
HasAsked (event ∷ before) askings state =
    (earlier : State) × (asked : List Asking) × HasAsked before asked earlier × Goes event earlier state × (askings ≡ asking_at event earlier ++ asked)

-- How far the requests to a target have come: ANNOUNCE and SETUP of so many tracks, RECORD, TEARDOWN.
pub data Stage : Type 0 where
  Unasked : Stage
  SettingUp : (tracks : ℕ) → Stage
  Recording : Stage
  Ended : Stage

-- The request is for this, by this method, with this identifier in its Session header or without one.
pub record IsAsking (asked : Asked) (method : Method) (session : Option (List ℕ)) (asking : Asking) : Type 0 where
  pub asked_is : asking.ask.asked ≡ asked
  pub method_is : asking.ask.method ≡ method
  pub session_is : asking.session ≡ session

-- the Session header of SETUP of a track: the reply to the first one opens the session (RFC 2326, 12.37)
abbrev pub session_for : (id : List ℕ) → (track : ℕ) → Option (List ℕ)
session_for id zero = None
session_for id (suc before) = Some id

-- What a client asks next: ANNOUNCE; SETUP of each track that is set up at the source, in order; RECORD; any number of OPTIONS.
-- TEARDOWN is the last request: after the first SETUP, or while the target records.
abbrev pub Asks : (kept : ℕ) → (id : List ℕ) → (from : Stage) → Asking → (to : Stage) → Type 0
Asks kept id Unasked asking to = IsAsking asks.Announce methods.Announce None asking × (to ≡ SettingUp 0)
Asks kept id (SettingUp tracks) asking to =
    (IsAsking asks.SetUpTarget (methods.SetUp tracks (asked_pair tracks)) (session_for id tracks) asking × (tracks < kept) × (to ≡ SettingUp (tracks + 1)))
    ⊎ ((IsAsking asks.Record methods.Record (Some id) asking × (0 < tracks) × (tracks ≡ kept) × (to ≡ Recording))
    ⊎ (IsAsking (asks.TearDown Target) methods.TearDown (Some id) asking × (0 < tracks) × (to ≡ Ended)))
Asks kept id Recording asking to =
    (IsAsking (asks.KeepAlive Target) methods.Options (Some id) asking × (to ≡ Recording))
    ⊎ (IsAsking (asks.TearDown Target) methods.TearDown (Some id) asking × (to ≡ Ended))
Asks kept id Ended asking to = ⊥

-- These requests, of which the last one is the first of the list, come to this stage: so many tracks are set up, and the
-- target's session has this identifier.
abbrev pub IsCourse : (kept : ℕ) → (id : List ℕ) → List Asking → Stage → Type 0
IsCourse kept id [] stage = stage ≡ Unasked
IsCourse kept id (asking ∷ before) stage = (from : Stage) × Asks kept id from asking stage × IsCourse kept id before from

-- They are in this order for the tracks that the client has set up, and the session that is open has their identifier.
pub record AreInOrder (askings : List Asking) (state : State) : Type 0 where
  pub id : List ℕ
  pub stage : Stage
  pub course : IsCourse state.place.kept id askings stage
  pub open_is : (open_id : List ℕ) → session_at Target state ≡ Some open_id → open_id ≡ id

-- a reply of the target says that what was asked for is done
abbrev pub IsSuccess : Event → Type 0
IsSuccess event = (asked : Asked) × (event ≡ takes Target (Of asked GoesOn))

-- a request is sent to the target
abbrev pub IsSent : Event → Type 0
IsSent event = (asked : Asked) × (number : ℕ) × (event ≡ sends Target asked number)

-- since the last request to the target there was a reply that what was asked for is done
abbrev pub IsAnswered : List Event → Type 0
IsAnswered [] = ⊥
IsAnswered (event ∷ before) = IsSuccess event ⊎ ((IsSent event → ⊥) × IsAnswered before)

-- What has to come before a request to the target: success of the one before; of RECORD, if it keeps the session alive; of SETUP,
-- if it is TEARDOWN.
abbrev pub IsReadyFor : Asked → List Event → Type 0
IsReadyFor asks.Options before = Unit {0}
IsReadyFor asks.Describe before = Unit {0}
IsReadyFor asks.SetUp before = Unit {0}
IsReadyFor asks.Announce before = Unit {0}
IsReadyFor asks.SetUpTarget before = IsAnswered before
IsReadyFor asks.Record before = IsAnswered before
IsReadyFor asks.Play before = Unit {0}
IsReadyFor (asks.KeepAlive side) before = Contains before (takes Target (Of asks.Record GoesOn))
IsReadyFor (asks.TearDown side) before = Contains before (takes Target (Of asks.SetUpTarget GoesOn))
