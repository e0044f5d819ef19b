-- The whole client (RFC 2326, A.1).
use Rattle.std.specs.Prelude.{ℕ, ◌+◌, ◌*◌, Bool, true, false, not, ◌&&◌, if◌then◌else◌, nat_lt, List, Option, Some, None, slice_get}
use Rattle.transport_header.specs.declared.spec.ChannelPair.{ChannelPair}
use Rattle.rtsp_client.specs.Connections.{asked_on, new_connection}
use Rattle.rtsp_client.specs.Keepalives.{is_due}
use Rattle.rtsp_client.specs.Passages.{new_passage}
use Rattle.rtsp_client.specs.Steps.{Place, asked_at, start, track_in}
use Rattle.rtsp_client.specs.declared.ask.Method.{Method}
use Rattle.rtsp_client.specs.declared.ask.Method.TheVariants as methods
use Rattle.rtsp_client.specs.declared.asked.Asked.{Asked}
use Rattle.rtsp_client.specs.declared.asked.Asked.TheVariants as asks
use Rattle.rtsp_client.specs.declared.asked.Side.{Side}
use Rattle.rtsp_client.specs.declared.asked.Side.TheVariants.{Source, Target}
use Rattle.rtsp_client.specs.declared.awaits.Awaits.{Awaits}
use Rattle.rtsp_client.specs.declared.awaits.Awaits.TheVariants as waits
use Rattle.rtsp_client.specs.declared.connection.Connection.{Connection}
use Rattle.rtsp_client.specs.declared.end.End.{End}
use Rattle.rtsp_client.specs.declared.keepalive.Keepalive.{Keepalive}
use Rattle.rtsp_client.specs.declared.keepalive.KeepaliveMethod.{KeepaliveMethod}
use Rattle.rtsp_client.specs.declared.keepalive.KeepaliveMethod.TheVariants as by
use Rattle.rtsp_client.specs.declared.passage.Passage.{Passage}
use Rattle.rtsp_client.specs.declared.redirects.Redirects.{Redirects}
use Rattle.rtsp_client.specs.declared.requests.Outstanding.{Outstanding}

-- a client at a moment
pub record State : Type 0 where
  -- how far it has come
  pub place : Place
  -- what it waits for from the program
  pub awaits : Awaits
  pub redirects : Redirects
  -- the source has GET_PARAMETER
  pub has_get_parameter : Bool
  -- the program has told it to stop
  pub is_stopping : Bool
  -- why it has ended, if it has
  pub end : Option End
  pub source : Connection
  pub target : Connection
  -- the tracks that are set up, and what became of their frames
  pub passage : Passage

abbrev pub new_client : State
new_client = record {
  place = start;
  awaits = waits.Nothing;
  redirects = record { followed = 0 };
  has_get_parameter = false;
  is_stopping = false;
  end = None;
  source = new_connection;
  target = new_connection;
  passage = new_passage;
}

abbrev pub connection_of : Side → State → Connection
connection_of Source state = state.source
connection_of Target state = state.target

abbrev pub with_connection : Side → Connection → State → State
with_connection Source connection state = record state { source = connection }
with_connection Target connection state = record state { target = connection }

-- the request to a side that waits for its reply
abbrev pub waiting_at : Side → State → Option Outstanding
waiting_at side state = (connection_of side state).requests.outstanding

-- the number of a side's next request
abbrev pub number_at : Side → State → ℕ
number_at side state = (connection_of side state).requests.next

-- the identifier of a side's session, if it is open
abbrev pub session_at : Side → State → Option (List ℕ)
session_at side state = (connection_of side state).session

-- which track of the source has this place among those that are set up
abbrev pub kept_track : State → (place : ℕ) → Option ℕ
kept_track state place = if nat_lt place state.place.kept then slice_get state.passage.tracks place else None

-- the status of the reply to a request of a server
abbrev pub status_for : (is_options : Bool) → ℕ
status_for is_options = if is_options then 200 else 501

-- the session of a side is to be kept alive
abbrev pub keepalive_due : Side → State → (now : ℕ) → Option Asked
keepalive_due side state now = if is_due (connection_of side state).keepalive now then Some (asks.KeepAlive side) else None

-- what the step asks a side for, or else a request that keeps its session alive
abbrev pub step_or_keepalive : Option Asked → Side → State → (now : ℕ) → Option Asked
step_or_keepalive (Some asked) side state now = Some asked
step_or_keepalive None side state now = keepalive_due side state now

-- What is to be sent to the source if no request waits for its reply: nothing while the program is to say something, and what was
-- challenged once more if there is a password.
abbrev pub source_due : Awaits → State → (now : ℕ) → Option Asked
source_due waits.Nothing state now = step_or_keepalive (asked_at Source state.place.step) Source state now
source_due waits.Description state now = None
source_due waits.Connection state now = None
source_due (waits.Password asked) state now = None
source_due (waits.Again asked) state now = Some asked

-- what is to be sent to a side if no request waits for its reply
abbrev pub due_if_free : Side → State → (now : ℕ) → Option Asked
due_if_free Source state now = source_due state.awaits state now
due_if_free Target state now = step_or_keepalive (asked_at Target state.place.step) Target state now

-- while it stops it ends each session that is open
abbrev pub teardown_due : (session : Option (List ℕ)) → Side → Option Asked
teardown_due (Some id) side = Some (asks.TearDown side)
teardown_due None side = None

abbrev pub due_or_teardown : (is_stopping : Bool) → Side → State → (now : ℕ) → Option Asked
due_or_teardown true side state now = teardown_due (session_at side state) side
due_or_teardown false side state now = due_if_free side state now

-- one request at a time waits for its reply
abbrev pub due_after_reply : Option Outstanding → Side → State → (now : ℕ) → Option Asked
due_after_reply (Some outstanding) side state now = None
due_after_reply None side state now = due_or_teardown state.is_stopping side state now

-- after its end it asks for nothing
abbrev pub due_before_end : Option End → Side → State → (now : ℕ) → Option Asked
due_before_end (Some end) side state now = None
due_before_end None side state now = due_after_reply (waiting_at side state) side state now

-- what is to be sent to a side
abbrev pub due : Side → State → (now : ℕ) → Option Asked
due side state now = due_before_end state.end side state now

-- the channels that are asked for
abbrev pub asked_pair : (track : ℕ) → ChannelPair
asked_pair track = record { first = 2 * track; second = 2 * track + 1 }

abbrev pub method_by : KeepaliveMethod → Method
method_by by.GetParameter = methods.GetParameter
method_by by.Options = methods.Options

-- the method that keeps a session alive
abbrev pub keepalive_method : Option Keepalive → Method
keepalive_method None = methods.Options
keepalive_method (Some keepalive) = method_by keepalive.method

-- the method of a request, with what its headers say
abbrev pub method_of : Asked → State → Method
method_of asks.Options state = methods.Options
method_of asks.Describe state = methods.Describe
method_of asks.SetUp state = methods.SetUp (track_in state.place.step) (asked_pair (track_in state.place.step))
method_of asks.Announce state = methods.Announce
method_of asks.SetUpTarget state = methods.SetUp (track_in state.place.step) (asked_pair (track_in state.place.step))
method_of asks.Record state = methods.Record
method_of asks.Play state = methods.Play
method_of (asks.KeepAlive side) state = keepalive_method (connection_of side state).keepalive
method_of (asks.TearDown side) state = methods.TearDown

-- it was challenged, and is sent once more
abbrev pub is_again : Awaits → Bool
is_again waits.Nothing = false
is_again waits.Description = false
is_again waits.Connection = false
is_again (waits.Password asked) = false
is_again (waits.Again asked) = true

-- a request that is due to a side is one that was challenged
abbrev pub repeats : Side → State → Bool
repeats Source state = is_again state.awaits && not state.is_stopping
repeats Target state = false

-- a request is sent
abbrev pub asked_of : Side → Asked → (now : ℕ) → State → State
asked_of Source asked now state = record state { source = asked_on state.source asked now; awaits = waits.Nothing }
asked_of Target asked now state = record state { target = asked_on state.target asked now }

abbrev pub with_end : End → State → State
with_end end state = record state { end = Some end }

-- after its end nothing changes
abbrev pub unless_ended : Option End → (next : State) → State → State
unless_ended (Some end) next state = state
unless_ended None next state = next
