-- The trace of a schedule, and what is promised of a run's states, turns and events.
use Rattle.std.specs.Prelude.{◌≡◌, ◌<◌, ◌≤◌, ◌∷◌, ◌++◌, [], ℕ, Option, Some, List, length, map, slice_get, take}
use Rattle.cursor.specs.declared.takes.Left.{Left}
use Rattle.cursor.specs.Account.{StaysAttached, lost, received, takes_of}
use Rattle.cursor.specs.Log.{Event, LegalHistory, Log, attached_at, detached_with}
use Rattle.ring_steps.specs.Ring.{State}
use Rattle.ring_steps.specs.Slots.{SawPins}
use Rattle.cursor.specs.declared.calls.Answer.{Answer}
use Rattle.cursor.specs.declared.calls.Answer.TheVariants.{Refused}
use Rattle.ring_steps.specs.declared.calls.Actor.{Actor}
use Rattle.ring_steps.specs.declared.calls.Actor.TheVariants.{P, Seat}
use Rattle.ring_steps.specs.declared.config.Config.{Config}
use Rattle.ring_steps.specs.declared.made.Made.{Made}
use Rattle.ring_steps.specs.declared.trace.Trace.{Trace}
use Rattle.ring_steps.specs.declared.trace.TraceStep.{TraceStep}
use Rattle.ring_steps.specs.Acting.{acted, answered_of, answers_of, calls_of_actor, event_of, events_of, only_packet, reply_to}
use Rattle.ring_steps.specs.Atomic.{IsUnanswered, atomic_steps, most_atomic}
use Rattle.ring_steps.specs.Faults.{actors}
use Rattle.ring_steps.specs.Runs.{At, Calls, Ran, Turn, start}

-- a turn without its call
abbrev pub made_of : Turn → Made
made_of t = record { actor = t.actor; saw = t.saw; answer = t.answer }

-- a turn as a trace tells it
abbrev pub step_of : Turn → TraceStep
step_of t = record { actor = t.actor; saw = t.saw }

-- turns of a whole schedule from the start, and what they saw and answered
pub record Makes (config : Config) (calls : Calls) (schedule : List Actor) (steps : List Made) : Type 0 where
  pub turns : List Turn
  pub end : At
  pub ran : Ran calls (start config.keep config.seats) turns end
  pub by : actors turns ≡ schedule
  pub made : steps ≡ map made_of turns

-- the publisher, or one of so many seats
abbrev pub IsOneOf : (seats : ℕ) → Actor → Type 0
IsOneOf n P = Unit {0}
IsOneOf n (Seat s) = s < n

abbrev pub IsByOneOf : (seats : ℕ) → Made → Type 0
IsByOneOf n m = IsOneOf n m.actor

-- these are the packets that each seat is answered in these turns before it loads the head
abbrev pub Waits : (packets : List (Option Answer)) → List Turn → Type 0
Waits packets later = (i : ℕ) (r : Option Answer) → slice_get packets i ≡ Some r → r ≡ only_packet (reply_to i later)

-- a trace of a whole schedule: each step is a step of the run, from the empty ring on, by its actor and
-- within its next call; and the events are those of the calls that act, in the order of their acting
-- steps
pub record IsTrace (config : Config) (calls : Calls) (schedule : List Actor) (trace : Trace) : Type 0 where
  pub turns : List Turn
  pub end : At
  pub ran : Ran calls (start config.keep config.seats) turns end
  pub by : actors turns ≡ schedule
  pub steps : trace.steps.items ≡ map step_of turns
  pub events : trace.events.items ≡ map event_of (acted 0 turns)

-- every state on the way of these turns has the property, the first and the last too
abbrev pub EachState : Config → Calls → List Turn → (State → Type 0) → Type 0
EachState config calls turns Holds = (n : ℕ) (mid : At) → Ran calls (start config.keep config.seats) (take n turns) mid → Holds mid.ring

-- these events are a legal history of some log
abbrev pub IsLegal : (keep seats : ℕ) → List Event → Type 0
IsLegal keep seats events = (log : Log) × LegalHistory keep seats events log

-- each detachment tells what its seat took and lost since it was attached
abbrev pub TellsAccounts : List Event → Type 0
TellsAccounts events = (seat back from : ℕ) (left : Left) (before during after : List Event)
    → events ≡ before ++ (attached_at seat back from ∷ during ++ detached_with seat left ∷ []) ++ after
    → StaysAttached seat during
    → (left.taken ≡ length (received (takes_of seat during))) × (left.lost ≡ lost (takes_of seat during))

-- each answered call has one event, with its answer, and no other call has one: the events of an actor
-- are, in the acting order, its answered calls with their answers, and these are the first of its script
abbrev pub ActsOnce : Calls → List Turn → (end : At) → Type 0
ActsOnce calls turns end = (actor : Actor)
    → (events_of actor (acted 0 turns) ≡ answers_of actor turns)
    × (map (λ (e : Event). e.call) (answers_of actor turns) ≡ take (answered_of end actor) (calls_of_actor calls actor))

-- each call makes no more atomic steps than it may
abbrev pub StepsAreFew : List Turn → Type 0
StepsAreFew turns = (before during after : List Turn) (t : Turn) → turns ≡ before ++ during ++ t ∷ after → IsUnanswered t.actor during
    → atomic_steps t.actor (during ++ t ∷ []) ≤ most_atomic t.call

-- a refused publish saw the pins of the seats that stood in its slot
abbrev pub MeetsPins : State → Turn → Type 0
MeetsPins s t = t.answer ≡ Some Refused → SawPins s t.saw

-- each turn, with the state before it
abbrev pub EachTurn : Config → Calls → List Turn → (State → Turn → Type 0) → Type 0
EachTurn config calls turns Holds = (n : ℕ) (mid : At) (t : Turn) → Ran calls (start config.keep config.seats) (take n turns) mid → slice_get turns n ≡ Some t → Holds mid.ring t
