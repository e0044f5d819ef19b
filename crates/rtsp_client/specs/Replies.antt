-- What a reply means for a client: a row for each verdict of the table, of the request that keeps a session alive and of the step's.
use Rattle.std.specs.Prelude.{◌≡◌, ◌⊎◌, ◌<◌, ◌+◌, ℕ, MatchBool, nat_lt, Option, Some, None}
use Rattle.rtsp_client.specs.Clients.{State, connection_of, waiting_at, with_connection, with_end}
use Rattle.rtsp_client.specs.Connections.{kept_by_options, with_requests}
use Rattle.rtsp_client.specs.Requests.{IsReply, without_request}
use Rattle.rtsp_client.specs.SettingUp.{IsEnd, IsSame, SetsUp}
use Rattle.rtsp_client.specs.Stopping.{IsTornDown}
use Rattle.rtsp_client.specs.Steps.{IsSetUp, asked_at, done_from, left_out_from}
use Rattle.rtsp_client.specs.declared.asked.Asked.{Asked}
use Rattle.rtsp_client.specs.declared.asked.Asked.TheVariants as asks
use Rattle.rtsp_client.specs.declared.asked.Side.{Side}
use Rattle.rtsp_client.specs.declared.asked.Side.TheVariants.{Source, Target}
use Rattle.rtsp_client.specs.declared.awaits.Awaits.TheVariants as waits
use Rattle.rtsp_client.specs.declared.end.End.{End}
use Rattle.rtsp_client.specs.declared.end.End.TheVariants as ends
use Rattle.rtsp_client.specs.declared.reply_facts.ReplyFacts.{ReplyFacts}
use Rattle.rtsp_client.specs.declared.requests.Reply.{Reply}
use Rattle.rtsp_client.specs.declared.requests.Reply.TheVariants.{Of, Other}
use Rattle.rtsp_client.specs.declared.step.Step.{Step}
use Rattle.rtsp_client.specs.declared.step.Step.TheVariants as steps
use Rattle.rtsp_client.specs.declared.turn.Turn.{Turn}
use Rattle.rtsp_client.specs.declared.turn.Turn.TheVariants as turns
use Rattle.rtsp_client.specs.declared.verdict.Verdict.{Verdict}
use Rattle.rtsp_client.specs.declared.verdict.Verdict.TheVariants.{Waits, GoesOn, Follows, LeavesOut, Challenged, TargetAsksPassword, SessionGone, UsesOptions, Refused, Over}

-- the next step is due
abbrev pub IsNext : (old new : State) → Turn → Type 0
IsNext old new turn = (new ≡ record old { place = done_from old.place }) × (turn ≡ turns.GoesOn)

-- the source asks for a password for this request
abbrev pub challenged : Asked → State → State
challenged asked state = record state { awaits = waits.Password asked }

-- from now on OPTIONS keeps a side's session alive
abbrev pub options_at : Side → State → State
options_at side state = with_connection side (kept_by_options (connection_of side state)) state

-- the reply to a request that keeps a session alive
abbrev pub kept_alive : Verdict → Side → State → State
kept_alive Waits side state = state
kept_alive GoesOn side state = state
kept_alive Follows side state = state
kept_alive LeavesOut side state = state
kept_alive Challenged side state = challenged (asks.KeepAlive side) state
kept_alive TargetAsksPassword side state = with_end ends.TargetAsksPassword state
kept_alive SessionGone side state = with_end (ends.SessionGone side) state
kept_alive UsesOptions side state = options_at side state
kept_alive Refused side state = state
kept_alive Over side state = state

abbrev pub keepalive_turn : Verdict → Side → Turn
keepalive_turn Waits side = turns.GoesOn
keepalive_turn GoesOn side = turns.GoesOn
keepalive_turn Follows side = turns.GoesOn
keepalive_turn LeavesOut side = turns.GoesOn
keepalive_turn Challenged side = turns.Challenged
keepalive_turn TargetAsksPassword side = turns.Ends ends.TargetAsksPassword
keepalive_turn SessionGone side = turns.Ends (ends.SessionGone side)
keepalive_turn UsesOptions side = turns.GoesOn
keepalive_turn Refused side = turns.GoesOn
keepalive_turn Over side = turns.GoesOn

-- why the client ends if a step's request is refused
abbrev pub refusal : Asked → (status : ℕ) → End
refusal asks.Options status = ends.TargetRefused asks.Options status
refusal asks.Describe status = ends.DescribeRefused status
refusal asks.SetUp status = ends.TargetRefused asks.SetUp status
refusal asks.Announce status = ends.TargetRefused asks.Announce status
refusal asks.SetUpTarget status = ends.TargetRefused asks.SetUpTarget status
refusal asks.Record status = ends.TargetRefused asks.Record status
refusal asks.Play status = ends.PlayRefused status
refusal (asks.KeepAlive side) status = ends.TargetRefused (asks.KeepAlive side) status
refusal (asks.TearDown side) status = ends.TargetRefused (asks.TearDown side) status

-- the description is elsewhere: at most three times that is followed
abbrev pub IsFollowed : (old new : State) → Turn → Type 0
IsFollowed old new turn =
    MatchBool (nat_lt old.redirects.followed 3)
    ((new ≡ record old { redirects = record { followed = old.redirects.followed + 1 }; awaits = waits.Connection }) × (turn ≡ turns.Redirects))
    (IsEnd ends.TooManyRedirects old new turn)

-- the source refuses a track: the next one is asked for, or the tracks that are set up go on, or the client ends if there is none
abbrev pub IsLeftOut : (track status : ℕ) → (old new : State) → Turn → Type 0
IsLeftOut track status old new turn =
    (((0 < old.place.kept) ⊎ IsSetUp (left_out_from old.place).step) × (new ≡ record old { place = left_out_from old.place }) × (turn ≡ turns.LeavesOut track status))
    ⊎ ((old.place.kept ≡ 0) × ((left_out_from old.place).step ≡ steps.Announce) × IsEnd (ends.AllTracksRefused status) old new turn)

abbrev pub LeavesOutTrack : Step → (status : ℕ) → (old new : State) → Turn → Type 0
LeavesOutTrack steps.Options status old new turn = IsSame old new turn turns.GoesOn
LeavesOutTrack steps.Describe status old new turn = IsSame old new turn turns.GoesOn
LeavesOutTrack (steps.SetUp track) status old new turn = IsLeftOut track status old new turn
LeavesOutTrack steps.Announce status old new turn = IsSame old new turn turns.GoesOn
LeavesOutTrack (steps.SetUpTarget track) status old new turn = IsSame old new turn turns.GoesOn
LeavesOutTrack steps.Record status old new turn = IsSame old new turn turns.GoesOn
LeavesOutTrack steps.Play status old new turn = IsSame old new turn turns.GoesOn
LeavesOutTrack steps.Passing status old new turn = IsSame old new turn turns.GoesOn

-- the step's request has succeeded
abbrev pub StepIsDone : Step → ReplyFacts → (now : ℕ) → (old new : State) → Turn → Type 0
StepIsDone steps.Options reply now old new turn =
    (new ≡ record old { place = done_from old.place; has_get_parameter = reply.has_get_parameter }) × (turn ≡ turns.GoesOn)
StepIsDone steps.Describe reply now old new turn = (new ≡ record old { awaits = waits.Description }) × (turn ≡ turns.ReadsDescription)
StepIsDone (steps.SetUp track) reply now old new turn = SetsUp Source reply now old new turn
StepIsDone steps.Announce reply now old new turn = IsNext old new turn
StepIsDone (steps.SetUpTarget track) reply now old new turn = SetsUp Target reply now old new turn
StepIsDone steps.Record reply now old new turn = IsNext old new turn
StepIsDone steps.Play reply now old new turn = IsNext old new turn
StepIsDone steps.Passing reply now old new turn = IsSame old new turn turns.GoesOn

-- the reply to the step's request
abbrev pub Steps : Verdict → Asked → ReplyFacts → (now : ℕ) → (old new : State) → Turn → Type 0
Steps Waits asked reply now old new turn = IsSame old new turn turns.GoesOn
Steps GoesOn asked reply now old new turn = StepIsDone old.place.step reply now old new turn
Steps Follows asked reply now old new turn = IsFollowed old new turn
Steps LeavesOut asked reply now old new turn = LeavesOutTrack old.place.step reply.status old new turn
Steps Challenged asked reply now old new turn = (new ≡ challenged asked old) × (turn ≡ turns.Challenged)
Steps TargetAsksPassword asked reply now old new turn = IsEnd ends.TargetAsksPassword old new turn
Steps SessionGone asked reply now old new turn = IsSame old new turn turns.GoesOn
Steps UsesOptions asked reply now old new turn = IsSame old new turn turns.GoesOn
Steps Refused asked reply now old new turn = IsEnd (refusal asked reply.status) old new turn
Steps Over asked reply now old new turn = IsSame old new turn turns.GoesOn

-- a reply to another request than what the step asks that side for is passed over
abbrev pub TakesStep : (from : Side) → Asked → Verdict → ReplyFacts → (now : ℕ) → (old new : State) → Turn → Type 0
TakesStep from asked verdict reply now old new turn =
    ((asked_at from old.place.step ≡ Some asked) × Steps verdict asked reply now old new turn)
    ⊎ ((asked_at from old.place.step ≡ Some asked → ⊥) × IsSame old new turn turns.PassesOver)

-- whose session a request keeps alive, if it is sent for that
abbrev pub keepalive_side : Asked → Option Side
keepalive_side asks.Options = None
keepalive_side asks.Describe = None
keepalive_side asks.SetUp = None
keepalive_side asks.Announce = None
keepalive_side asks.SetUpTarget = None
keepalive_side asks.Record = None
keepalive_side asks.Play = None
keepalive_side (asks.KeepAlive side) = Some side
keepalive_side (asks.TearDown side) = None

-- whose session a request ends, if it is sent for that
abbrev pub teardown_side : Asked → Option Side
teardown_side asks.Options = None
teardown_side asks.Describe = None
teardown_side asks.SetUp = None
teardown_side asks.Announce = None
teardown_side asks.SetUpTarget = None
teardown_side asks.Record = None
teardown_side asks.Play = None
teardown_side (asks.KeepAlive side) = None
teardown_side (asks.TearDown side) = Some side

-- a request that ends no session: the step's
abbrev pub TakesUnlessTeardown : Option Side → (from : Side) → Asked → Verdict → ReplyFacts → (now : ℕ) → (old new : State) → Turn → Type 0
TakesUnlessTeardown (Some side) from asked verdict reply now old new turn = IsTornDown verdict side old new turn
TakesUnlessTeardown None from asked verdict reply now old new turn = TakesStep from asked verdict reply now old new turn

-- a request that keeps no session alive
abbrev pub TakesAs : Option Side → (from : Side) → Asked → Verdict → ReplyFacts → (now : ℕ) → (old new : State) → Turn → Type 0
TakesAs (Some side) from asked verdict reply now old new turn = (new ≡ kept_alive verdict side old) × (turn ≡ keepalive_turn verdict side)
TakesAs None from asked verdict reply now old new turn = TakesUnlessTeardown (teardown_side asked) from asked verdict reply now old new turn

-- the reply to a request
abbrev pub TakesOf : (from : Side) → Asked → Verdict → ReplyFacts → (now : ℕ) → (old new : State) → Turn → Type 0
TakesOf from asked verdict reply now old new turn = TakesAs (keepalive_side asked) from asked verdict reply now old new turn

abbrev pub Takes : (from : Side) → Reply → ReplyFacts → (now : ℕ) → (old new : State) → Turn → Type 0
Takes from (Of asked verdict) reply now old new turn = TakesOf from asked verdict reply now old new turn
Takes from Other reply now old new turn = IsSame old new turn turns.PassesOver

-- the request that was answered waits no longer
abbrev pub answered_of : Side → Reply → State → State
answered_of side reply state =
    with_connection side (with_requests (connection_of side state) (without_request (connection_of side state).requests reply)) state

-- A reply comes from a side: it is that of the request that waits, or of none.
abbrev pub IsTakenFrom : Side → ReplyFacts → (now : ℕ) → (old new : State) → Turn → Type 0
IsTakenFrom side facts now old new turn =
    (reply : Reply)
    × IsReply (waiting_at side old) facts.number facts.status reply
    × Takes side reply facts now (answered_of side reply old) new turn
