-- What a server remembers to decide, and which history it stands for.
use Rattle.std.specs.Prelude.{◌≡◌, ℕ, ◌+◌, ◌≤◌, ◌==◌, if◌then◌else◌, List, length, max, slice_set, is_some, IsSome, true, false, Option, None, Some}
use Rattle.std.specs.Option.{option_and_then, option_map}
use Rattle.std.specs.Ordering.{nat_cmp}
use Rattle.std.specs.BTreeMap.{is_at}
use Rattle.std.specs.Map.{lookup}
use Rattle.mounts.specs.declared.mount.Mount.{Mount}
use Rattle.mounts.specs.Mounts.{IsSeat, IsSound, Table, ended, with_seat_of}
use Rattle.session_state.specs.declared.act.Act.{Act}
use Rattle.session_state.specs.declared.act.Act.TheVariants as acts
use Rattle.transport_header.specs.declared.spec.ChannelPair.{ChannelPair}
use Rattle.session_state.specs.declared.session.Session.{Session}
use Rattle.session_state.specs.declared.session.State.{State}
use Rattle.session_state.specs.declared.session.State.TheVariants.{Playing}
use Rattle.session_state.specs.declared.world.connection.Connection.{Connection}
use Rattle.session_state.specs.Methods.{is_announce}
use Rattle.session_state.specs.History.{History, accepts, how_many, is_hang_up, last_heard}
use Rattle.session_state.specs.Lookups.{IsSessionOf, came, is_open, sessions_begun}
use Rattle.session_state.specs.Streams.{AreLive}

-- The table of mounts; the open connections, each with its session and the moment at which it was last heard; how many
-- connections have come, and how many sessions have begun.
pub record Tables : Type 0 where
  pub mounts : Table
  pub connections : List (ℕ × Connection)
  pub came : ℕ
  pub begun : ℕ

-- what is kept of a connection, where it is open, and of that its session, and when it was last heard
abbrev pub connection_of : (conn : ℕ) → List (ℕ × Connection) → Option Connection
connection_of conn connections = lookup (is_at (nat_cmp conn)) connections

abbrev pub kept_of : (conn : ℕ) → List (ℕ × Connection) → Option (Option Session)
kept_of conn connections = option_map (λ kept. kept.session) (connection_of conn connections)

abbrev pub heard_of : (conn : ℕ) → List (ℕ × Connection) → Option ℕ
heard_of conn connections = option_map (λ kept. kept.heard) (connection_of conn connections)

-- the session that is kept of a connection
abbrev pub session_kept : Tables → (conn : ℕ) → Option Session
session_kept tables conn = option_and_then (λ kept. kept) (kept_of conn tables.connections)

-- Each look-up in the history, but for when connections were heard, is what the tables say.
pub record Recalls (history : History) (tables : Tables) : Type 0 where
  pub sound : IsSound tables.mounts
  pub mounts : AreLive tables.mounts.seats history tables.mounts.mounts
  pub next : tables.mounts.next ≡ how_many (accepts is_announce) history + 1
  pub are_open : (conn : ℕ) → is_some (kept_of conn tables.connections) ≡ is_open conn history
  pub sessions : (conn : ℕ) (session : Option Session) → kept_of conn tables.connections ≡ Some session → IsSessionOf tables.mounts.seats conn history session
  pub came_is : tables.came ≡ came history
  pub gone : length tables.connections + how_many is_hang_up history ≡ came history
  pub begun_is : tables.begun ≡ sessions_begun history

-- Each look-up in the history is what the tables say.
pub record Stands (history : History) (tables : Tables) : Type 0 where
  pub recalls : Recalls history tables
  pub heard : (conn moment : ℕ) → heard_of conn tables.connections ≡ Some moment → moment ≡ last_heard conn history

-- a session in another state, and with other channels of a track
abbrev pub in_state : State → Session → Session
in_state state session = record session { state = state }

abbrev pub with_channels : (track : ℕ) → ChannelPair → Session → Session
with_channels track pair session = record session { channels = slice_set session.channels track (Some pair) }

-- What is kept of one connection has changed so, and nothing else.
pub record ChangesConnection (conn : ℕ) (change : Connection → Connection) (old new : Tables) : Type 0 where
  pub mounts : new.mounts ≡ old.mounts
  pub each : (other : ℕ) → connection_of other new.connections ≡ (if conn == other then option_map change (connection_of other old.connections) else connection_of other old.connections)
  pub count : length new.connections ≡ length old.connections
  pub came : new.came ≡ old.came
  pub begun : new.begun ≡ old.begun

-- One connection's session has changed so, and nothing else.
abbrev pub ChangesSession : (conn : ℕ) → (change : Option Session → Option Session) → (old new : Tables) → Type 0
ChangesSession conn change old new = ChangesConnection conn (λ kept. record kept { session = change kept.session }) old new

-- One connection was heard at a moment, and nothing else has changed.
abbrev pub IsHeard : (conn now : ℕ) → (old new : Tables) → Type 0
IsHeard conn now old new = ChangesConnection conn (λ kept. record kept { heard = max now kept.heard }) old new

-- A connection has a session, and was last heard 60 seconds or more before a moment: by a request, or at `heard`.
pub record HasExpired (tables : Tables) (conn heard now : ℕ) : Type 0 where
  pub kept : Connection
  pub there : connection_of conn tables.connections ≡ Some kept
  pub session : IsSome kept.session
  pub late : max kept.heard heard + 60000 ≤ now

-- the table of mounts without that of a connection
abbrev pub without_owned : (owned : Option Mount) → Table → Table
without_owned None table = table
without_owned (Some own) table = ended own.number table

-- A session takes a free seat of its mount, and plays from it.
pub record TakesSeat (conn : ℕ) (session : Session) (old : Tables) (act : Act) (new : Tables) : Type 0 where
  pub seat : ℕ
  pub free : IsSeat old.mounts session.mount seat false
  pub does : act ≡ acts.Play session.mount seat
  pub changes : ChangesSession conn (option_map (in_state (Playing seat))) (record old { mounts = with_seat_of session.mount seat true old.mounts }) new
