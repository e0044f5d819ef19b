-- What happens to a client from its beginning: its calls, each as its contract says.
use Rattle.std.specs.Prelude.{◌≡◌, ◌<◌, ℕ, Bool, List, [], ◌∷◌, Some, None}
use Rattle.rtsp_client.specs.Clients.{State, asked_of, due, new_client, number_at, waiting_at, with_end}
use Rattle.rtsp_client.specs.Lateness.{Ticks}
use Rattle.rtsp_client.specs.Replies.{Takes, answered_of}
use Rattle.rtsp_client.specs.Requests.{IsReply}
use Rattle.rtsp_client.specs.Sending.{after_sent}
use Rattle.rtsp_client.specs.Stopping.{Stops}
use Rattle.rtsp_client.specs.Told.{after_answer, after_bad_description, after_description, after_end, after_redirect}
use Rattle.rtsp_client.specs.declared.asked.Asked.{Asked}
use Rattle.rtsp_client.specs.declared.asked.Side.{Side}
use Rattle.rtsp_client.specs.declared.asked.Side.TheVariants.{Source, Target}
use Rattle.rtsp_client.specs.declared.awaits.Awaits.TheVariants as waits
use Rattle.rtsp_client.specs.declared.end.End.{End}
use Rattle.rtsp_client.specs.declared.end.End.TheVariants as ends
use Rattle.rtsp_client.specs.declared.reply_facts.ReplyFacts.{ReplyFacts}
use Rattle.rtsp_client.specs.declared.requests.Reply.{Reply}
use Rattle.rtsp_client.specs.declared.turn.Turn.{Turn}

-- what happens to a client
pub data Event : Type 0 where
  -- it sends a request with this number to a side
  sends : (side : Side) (asked : Asked) (number : ℕ) → Event
  -- a side's numbers are used up
  runs_out : (side : Side) → Event
  -- a side's reply comes: what it is
  takes : (side : Side) (reply : Reply) → Event
  -- the description has so many tracks that can be used
  is_described : (tracks : ℕ) → Event
  -- the description can't be read
  is_undescribed : Event
  -- there is a new connection to the source, which it waited for
  is_redirected : Event
  -- there is a password, or none
  is_answered : (has_password : Bool) → Event
  -- it is ended
  is_ended : End → Event
  -- it is told to stop
  is_stopped : Event
  -- a frame comes, whole or cut
  frame_comes : Event
  -- the target's system takes so many frames
  frames_leave : (frames : ℕ) → Event
  -- time passes for a side
  ticks : (side : Side) → Event
  -- a call changes nothing
  idles : Event

-- a side's reply is taken for what it is
abbrev pub IsTaken : Side → Reply → ReplyFacts → (now : ℕ) → Turn → (old new : State) → Type 0
IsTaken side reply facts now turn old new =
    (old.end ≡ None)
    × IsReply (waiting_at side old) facts.number facts.status reply
    × Takes side reply facts now (answered_of side reply old) new turn

-- what becomes of the client
abbrev pub Goes : Event → (old new : State) → Type 0
Goes (sends side asked number) old new =
    (now : ℕ) × (due side old now ≡ Some asked) × (number ≡ number_at side old) × (new ≡ asked_of side asked now old)
Goes (runs_out side) old new = (old.end ≡ None) × (new ≡ with_end (ends.NumbersUsedUp side) old)
Goes (takes side reply) old new = (facts : ReplyFacts) × (now : ℕ) × (turn : Turn) × IsTaken side reply facts now turn old new
Goes (is_described tracks) old new = new ≡ after_description tracks old
Goes is_undescribed old new = new ≡ after_bad_description old
Goes is_redirected old new = (old.end ≡ None) × (old.awaits ≡ waits.Connection) × (new ≡ after_redirect old)
Goes (is_answered has) old new = new ≡ after_answer has old
Goes (is_ended end) old new = new ≡ after_end end old
Goes is_stopped old new = (turn : Turn) × Stops old new turn
Goes frame_comes old new =
    (new ≡ record old { passage = new.passage }) × (new.passage.map ≡ old.passage.map) × (new.passage.tracks ≡ old.passage.tracks)
Goes (frames_leave frames) old new = (now : ℕ) × (new ≡ after_sent frames now old)
Goes (ticks side) old new = (now : ℕ) × (turn : Turn) × (old.end ≡ None) × Ticks side now old new turn
Goes idles old new = new ≡ old

-- A client is this after these events, of which the last one is the first of the list.
abbrev pub HasGone : List Event → State → Type 0
HasGone [] state = state ≡ new_client
HasGone (event ∷ before) state = (earlier : State) × HasGone before earlier × Goes event earlier state

-- A number that an event sends to a side is below this one.
abbrev pub IsBelow : Side → Event → (number : ℕ) → Type 0
IsBelow side (sends other asked sent) number = other ≡ side → sent < number
IsBelow side (runs_out other) number = Unit {0}
IsBelow side (takes other reply) number = Unit {0}
IsBelow side (is_described tracks) number = Unit {0}
IsBelow side is_undescribed number = Unit {0}
IsBelow side is_redirected number = Unit {0}
IsBelow side (is_answered has) number = Unit {0}
IsBelow side (is_ended end) number = Unit {0}
IsBelow side is_stopped number = Unit {0}
IsBelow side frame_comes number = Unit {0}
IsBelow side (frames_leave frames) number = Unit {0}
IsBelow side (ticks other) number = Unit {0}
IsBelow side idles number = Unit {0}

-- the event begins a new connection to this side
abbrev pub IsNewConnection : Side → Event → Type 0
IsNewConnection Source event = event ≡ is_redirected
IsNewConnection Target event = ⊥

-- Each number that was sent on a side's connection is below this one.
abbrev pub AllBelow : Side → List Event → (number : ℕ) → Type 0
AllBelow side [] number = Unit {0}
AllBelow side (event ∷ before) number = IsBelow side event number × (¬ IsNewConnection side event → AllBelow side before number)
