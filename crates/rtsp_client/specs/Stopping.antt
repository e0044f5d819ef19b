-- A client that stops (RFC 2326, 10.7).
use Rattle.std.specs.Prelude.{◌||◌, Bool, true, MatchBool, Option, Some, None, is_some}
use Rattle.rtsp_client.specs.Clients.{State, connection_of, session_at, with_connection}
use Rattle.rtsp_client.specs.Connections.{closed}
use Rattle.rtsp_client.specs.SettingUp.{IsEnd, IsSame}
use Rattle.rtsp_client.specs.declared.asked.Side.{Side}
use Rattle.rtsp_client.specs.declared.asked.Side.TheVariants.{Source, Target}
use Rattle.rtsp_client.specs.declared.end.End.{End}
use Rattle.rtsp_client.specs.declared.end.End.TheVariants as ends
use Rattle.rtsp_client.specs.declared.turn.Turn.{Turn}
use Rattle.rtsp_client.specs.declared.turn.Turn.TheVariants as turns
use Rattle.rtsp_client.specs.declared.verdict.Verdict.{Verdict}
use Rattle.rtsp_client.specs.declared.verdict.Verdict.TheVariants.{Waits, GoesOn, Follows, LeavesOut, Challenged, TargetAsksPassword, SessionGone, UsesOptions, Refused, Over}

-- a session is open
abbrev pub has_session : State → Bool
has_session state = is_some (session_at Source state) || is_some (session_at Target state)

-- the client ends once no session is open
abbrev pub EndsIfClosed : (old new : State) → Turn → Type 0
EndsIfClosed old new turn = MatchBool (has_session old) (IsSame old new turn turns.GoesOn) (IsEnd ends.Stopped old new turn)

abbrev pub with_closed : Side → State → State
with_closed side state = with_connection side (closed (connection_of side state)) state

-- a side's session is over
abbrev pub IsClosed : Side → (old new : State) → Turn → Type 0
IsClosed side old new turn = EndsIfClosed (with_closed side old) new turn

-- the reply to TEARDOWN: whatever its status, the session is over
abbrev pub IsTornDown : Verdict → Side → (old new : State) → Turn → Type 0
IsTornDown Waits side old new turn = IsSame old new turn turns.GoesOn
IsTornDown GoesOn side old new turn = IsSame old new turn turns.GoesOn
IsTornDown Follows side old new turn = IsSame old new turn turns.GoesOn
IsTornDown LeavesOut side old new turn = IsSame old new turn turns.GoesOn
IsTornDown Challenged side old new turn = IsSame old new turn turns.GoesOn
IsTornDown TargetAsksPassword side old new turn = IsSame old new turn turns.GoesOn
IsTornDown SessionGone side old new turn = IsSame old new turn turns.GoesOn
IsTornDown UsesOptions side old new turn = IsSame old new turn turns.GoesOn
IsTornDown Refused side old new turn = IsSame old new turn turns.GoesOn
IsTornDown Over side old new turn = IsClosed side old new turn

-- the program tells the client to stop
abbrev pub StopsAt : Option End → (old new : State) → Turn → Type 0
StopsAt (Some end) old new turn = IsSame old new turn turns.GoesOn
StopsAt None old new turn = EndsIfClosed (record old { is_stopping = true }) new turn

abbrev pub Stops : (old new : State) → Turn → Type 0
Stops old new turn = StopsAt old.end old new turn
