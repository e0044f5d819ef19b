-- Which histories are legal: each entry is so related to those before it.
use Rattle.std.specs.Prelude.{◌≡◌, ℕ, ◌+◌, ◌^◌, max, ◌<◌, ◌≤◌, true, List, [], ◌∷◌, ◌⊎◌, Option, None, Some}
use Rattle.rtsp_message.specs.declared.request.Request as messages
use Rattle.rtsp_message.specs.declared.reply.Reply.{Reply}
use Rattle.mounts.specs.declared.mount.Mount.{Mount}
use Rattle.mounts.specs.Mounts.{owned_by}
use Rattle.session_state.specs.declared.act.Act.{Act}
use Rattle.session_state.specs.declared.act.Act.TheVariants as acts
use Rattle.session_state.specs.declared.given.Given.{Given}
use Rattle.session_state.specs.declared.entry.Entry.{Entry}
use Rattle.session_state.specs.declared.entry.Entry.TheVariants.{Connect, Request, HangUp, Back, Expire}
use Rattle.session_state.specs.declared.checks.Check.{Check}
use Rattle.session_state.specs.declared.method.Method.{Method}
use Rattle.session_state.specs.declared.session.Session.{Session}
use Rattle.session_state.specs.Methods.{method_of}
use Rattle.session_state.specs.History.{History, last_heard}
use Rattle.session_state.specs.Lookups.{IsSession, IsSessionOf, came, is_open, open_count}
use Rattle.session_state.specs.Streams.{AreLive, IsLive, is_out}
use Rattle.session_state.specs.Checks.{Asked, FailsFirst, LooksUp, PassesAll, checks_of}
use Rattle.session_state.specs.Replies.{IsAccepted, pause_act, refusal, teardown_act}

-- The reply to a request: the first check that it doesn't pass decides; where it passes all, it is accepted.
abbrev pub IsRefusedBy : Asked → Reply → Act → Type 0
IsRefusedBy asked reply act =
    (check : Check) × FailsFirst asked (checks_of (method_of asked.request.method)) check × (reply ≡ refusal asked check) × (act ≡ acts.None)

abbrev pub IsAcceptedBy : Asked → Given → Reply → Act → Type 0
IsAcceptedBy asked given reply act =
    (method : Method) × (method_of asked.request.method ≡ Some method) × PassesAll asked (checks_of (Some method)) × IsAccepted asked method given reply act

abbrev pub IsAnswered : Asked → Given → Reply → Act → Type 0
IsAnswered asked given reply act = IsRefusedBy asked reply act ⊎ IsAcceptedBy asked given reply act

-- A connection's request after a history, and the reply and the act that it gets.
pub record IsReplyOf (seats : ℕ) (history : History) (conn : ℕ) (request : messages.Request) (given : Given) (reply : Reply) (act : Act) : Type 0 where
  pub is_there : is_open conn history ≡ true
  pub mounts : List Mount
  pub session : Option Session
  pub looks_up : LooksUp (record { seats = seats; history = history; conn = conn; request = request; mounts = mounts; session = session })
  pub answered : IsAnswered (record { seats = seats; history = history; conn = conn; request = request; mounts = mounts; session = session }) given reply act

-- two acts are one, but for the seat that a PLAY takes
abbrev pub IsSameAct : Act → Act → Type 0
IsSameAct (acts.Play mount seat) (acts.Play other taken) = mount ≡ other
IsSameAct act other = act ≡ other

-- what a connection leaves: its mount ends, or the seat that it plays from is given up
abbrev pub act_at_end : Option Mount → Option Session → Act
act_at_end (Some mount) session = acts.End
act_at_end None session = pause_act session

-- A connection hangs up after a history.
pub record IsHangUp (seats : ℕ) (history : History) (conn : ℕ) (act : Act) : Type 0 where
  pub is_there : is_open conn history ≡ true
  pub mounts : List Mount
  pub session : Option Session
  pub live : AreLive seats history mounts
  pub session_is : IsSessionOf seats conn history session
  pub does : act ≡ act_at_end (owned_by conn mounts) session

-- A connection comes: the next number, where fewer than 1,024 are open.
pub record Comes (history : History) (conn : ℕ) : Type 0 where
  pub few : open_count history < 1024
  pub next : conn ≡ came history + 1
  pub left : conn ≤ 2 ^ 63

-- A seat that is out of a mount that lives is given back.
pub record IsBack (history : History) (mount seat : ℕ) : Type 0 where
  pub owner : ℕ
  pub live : IsLive history mount owner
  pub out : is_out mount seat history ≡ true

-- A session expires: at a moment that is 60 seconds or more after its connection was last heard, by a request or otherwise
-- (RFC 2326, 12.37). What its connection then has to do is what a TEARDOWN would tell it.
pub record IsExpiry (seats : ℕ) (history : History) (conn heard now : ℕ) (act : Act) : Type 0 where
  pub is_there : is_open conn history ≡ true
  pub session : Session
  pub has : IsSession seats conn history session
  pub late : max (last_heard conn history) heard + 60000 ≤ now
  pub does : act ≡ teardown_act (Some session)

-- what may come next
abbrev pub Follows : (seats : ℕ) → History → Entry → Type 0
Follows seats history (Connect conn) = Comes history conn
Follows seats history (Request conn request given reply act) = IsReplyOf seats history conn request given reply act
Follows seats history (HangUp conn act) = IsHangUp seats history conn act
Follows seats history (Back mount seat) = IsBack history mount seat
Follows seats history (Expire conn heard now act) = IsExpiry seats history conn heard now act

-- a legal history, of a server whose mounts have so many seats
abbrev pub IsLegal : (seats : ℕ) → History → Type 0
IsLegal seats [] = Unit {0}
IsLegal seats (entry ∷ before) = IsLegal seats before × Follows seats before entry
