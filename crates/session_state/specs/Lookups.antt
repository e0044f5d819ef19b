-- What a history tells of its connections and their sessions (RFC 2326, 3.4, 12.37, 12.39 and A.2).
use Rattle.std.specs.Prelude.{◌≡◌, ℕ, suc, ◌-◌, ◌==◌, ◌&&◌, ◌↔◌, Bool, true, false, not, if◌then◌else◌, List, [], ◌∷◌, length, filter, find, reverse, is_some, Option, None, Some}
use Rattle.std.specs.List.{Contains}
use Rattle.std.specs.Option.{option_map, option_map_or, option_and_then}
use Rattle.rtsp_message.specs.declared.request.Request as messages
use Rattle.rtsp_message.specs.declared.reply.Reply.{Reply}
use Rattle.transport_header.specs.declared.chosen.Chosen.{Chosen}
use Rattle.transport_header.specs.declared.spec.ChannelPair.{ChannelPair}
use Rattle.transport_header.specs.Chosen.{transport_text}
use Rattle.transport_header.specs.Tracks.{pair_at}
use Rattle.mounts.specs.declared.mount.Mount.{Mount}
use Rattle.mounts.specs.Different.{AreDifferent}
use Rattle.session_state.specs.declared.act.Act.{Act}
use Rattle.session_state.specs.declared.given.Given.{Given}
use Rattle.session_state.specs.declared.entry.Entry.{Entry}
use Rattle.session_state.specs.declared.entry.Entry.TheVariants.{Connect, Request, HangUp}
use Rattle.session_state.specs.declared.method.Method.{Method}
use Rattle.session_state.specs.declared.method.Method.TheVariants as methods
use Rattle.session_state.specs.declared.session.Session.{Session}
use Rattle.session_state.specs.declared.session.State.{State}
use Rattle.session_state.specs.declared.session.State.TheVariants.{Ready, Playing, Recording}
use Rattle.session_state.specs.Methods.{is_setup, moves}
use Rattle.session_state.specs.History.{History, Moment, IsLast, last_of, how_many, since_last, accepted, accepts_from, connects, is_connect, is_hang_up, act_of, seat_of}
use Rattle.session_state.specs.Streams.{AreLive, SetsUp, ends_of}

-- whether a connection is open: the last of its coming and its hanging up was its coming
abbrev pub comes_or_goes : ℕ → Entry → Bool
comes_or_goes conn (Connect who) = who == conn
comes_or_goes conn (HangUp who act) = who == conn
comes_or_goes conn entry = false

abbrev pub is_open : (conn : ℕ) → History → Bool
is_open conn history = option_map_or (connects conn) (last_of (comes_or_goes conn) history) false

-- how many connections have come, and how many of them are open: those that haven't gone
abbrev pub came : History → ℕ
came history = how_many is_connect history

abbrev pub open_count : History → ℕ
open_count history = came history - how_many is_hang_up history

-- These are the connections that are open, each once.
pub record AreOpen (history : History) (conns : List ℕ) : Type 0 where
  pub each : (conn : ℕ) → Contains conns conn ↔ (is_open conn history ≡ true)
  pub once : AreDifferent conns

-- what a connection's session goes by: the accepted SETUP, PLAY, RECORD and PAUSE since its last TEARDOWN, expiry or hang-up,
-- newest first
abbrev pub session_part : (conn : ℕ) → History → List Moment
session_part conn history = filter (λ moment. accepts_from conn moves moment.entry) (since_last (ends_of conn) history)

-- the first SETUP among some moments, with which a session begins
abbrev pub beginning : (conn : ℕ) → List Moment → Option Moment
beginning conn moments = find (λ moment. accepts_from conn is_setup moment.entry) (reverse moments)

abbrev pub has_session : (conn : ℕ) → History → Bool
has_session conn history = is_some (beginning conn (session_part conn history))

-- how many sessions have begun: the accepted SETUPs of connections that had none
abbrev pub begins : Moment → Bool
begins moment = option_map_or (λ one. is_setup one.1 && not (has_session one.0 moment.before)) (accepted moment.entry) false

abbrev pub sessions_begun : History → ℕ
sessions_begun [] = 0
sessions_begun (entry ∷ before) = if begins (record { entry = entry; before = before }) then suc (sessions_begun before) else sessions_begun before

-- the word that was handed in with a request
abbrev pub word_of : Entry → Option ℕ
word_of (Request conn request given reply act) = Some given.word
word_of entry = None

-- the state that the last method leaves; PLAY leaves a session on a seat
abbrev pub state_by : Method → (seat : Option ℕ) → Option State
state_by methods.Setup seat = Some Ready
state_by methods.Pause seat = Some Ready
state_by methods.Record seat = Some Recording
state_by methods.Play seat = option_map (λ taken. Playing taken) seat
state_by method seat = None

-- the seat that was taken last among some moments
abbrev pub last_seat : List Moment → Option ℕ
last_seat moments = option_and_then (λ moment. seat_of (act_of moment.entry)) (find (λ moment. is_some (seat_of (act_of moment.entry))) moments)

abbrev pub state_of : List Moment → Option State
state_of [] = None
state_of (moment ∷ moments) = option_and_then (λ one. state_by one.1 (last_seat (moment ∷ moments))) (accepted moment.entry)

-- A moment at which a connection's SETUP of a track was accepted, among the mounts that lived then.
pub record SetUpAt (seats : ℕ) (conn : ℕ) (mount : Mount) (track : ℕ) (moment : Moment) : Type 0 where
  pub request : messages.Request
  pub given : Given
  pub reply : Reply
  pub act : Act
  pub is : moment.entry ≡ Request conn request given reply act
  pub accepts : accepts_from conn is_setup moment.entry ≡ true
  pub mounts : List Mount
  pub live : AreLive seats moment.before mounts
  pub sets_up : SetsUp mounts conn request.uri mount track

-- the two channels that a reply tells
abbrev pub ToldBy : Entry → ChannelPair → Type 0
ToldBy (Request conn request given reply act) pair =
    (chosen : Chosen) × (reply.fields.transport ≡ Some (transport_text chosen)) × (chosen.rtp ≡ pair.first) × (chosen.rtcp ≡ pair.second)
ToldBy entry pair = ⊥

-- the channels of a track: those that the last SETUP of it was told; none where there was none
abbrev pub ToldLast : Option Moment → Option ChannelPair → Type 0
ToldLast None pair = pair ≡ None
ToldLast (Some moment) None = ⊥
ToldLast (Some moment) (Some pair) = ToldBy moment.entry pair

abbrev pub AreChannels : (seats conn : ℕ) → List Moment → (track : ℕ) → Option ChannelPair → Type 0
AreChannels seats conn moments track pair =
    (last : Option Moment) × IsLast (λ moment. (mount : Mount) × SetUpAt seats conn mount track moment) moments last × ToldLast last pair

-- The session of a connection: it began with the first SETUP since the connection's last TEARDOWN, expiry or hang-up, on the
-- mount that this named; it is for recording where the connection owned that mount. It has up to sixteen tracks.
pub record IsSession (seats : ℕ) (conn : ℕ) (history : History) (session : Session) : Type 0 where
  pub begin : Moment
  pub first : beginning conn (session_part conn history) ≡ Some begin
  pub number : session.number ≡ sessions_begun (begin.entry ∷ begin.before)
  pub word : word_of begin.entry ≡ Some session.word
  pub mount : Mount
  pub track : ℕ
  pub set_up : SetUpAt seats conn mount track begin
  pub mount_is : session.mount ≡ mount.number
  pub name_is : session.name ≡ mount.name
  pub recording : session.recording ≡ (mount.owner == conn)
  pub tracks : length session.channels ≡ 16
  pub channels : (of : ℕ) → AreChannels seats conn (session_part conn history) of (pair_at session.channels of)
  pub state : state_of (session_part conn history) ≡ Some session.state

-- the session of a connection, or that it has none
abbrev pub IsSessionOf : (seats : ℕ) → (conn : ℕ) → History → Option Session → Type 0
IsSessionOf seats conn history None = has_session conn history ≡ false
IsSessionOf seats conn history (Some session) = IsSession seats conn history session
