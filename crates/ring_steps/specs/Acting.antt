-- At which step of a run each call acts, and with which answer; the history of a run: its events in the order of these steps.
use Rattle.std.specs.Prelude.{ℕ, ◌+◌, ◌==◌, ◌&&◌, ◌||◌, Bool, true, false, Option, Some, None, List, [], ◌∷◌, ◌++◌, map, is_some, slice_index_or, if◌then◌else◌}
use Rattle.cursor.specs.declared.calls.Answer.{Answer}
use Rattle.cursor.specs.declared.calls.Answer.TheVariants.{Taken}
use Rattle.cursor.specs.declared.takes.Delivery.TheVariants.{Got}
use Rattle.cursor.specs.declared.calls.Call.{Call}
use Rattle.cursor.specs.Log.{Event}
use Rattle.ring_steps.specs.declared.calls.Actor.{Actor}
use Rattle.ring_steps.specs.declared.calls.Actor.TheVariants.{P, Seat}
use Rattle.ring_steps.specs.declared.calls.Observed.{Observed}
use Rattle.ring_steps.specs.declared.calls.Observed.TheVariants as saw
use Rattle.ring_steps.specs.declared.trace.TraceEvent.{TraceEvent}
use Rattle.ring_steps.specs.Answers.{publisher_call, seat_call}
use Rattle.ring_steps.specs.Runs.{At, Calls, Turn}

-- where each call of a run acts: its acting step, which the literature calls its linearization point. An appended publish acts at
-- its append, a refused one at its failed begin, a close at its store, and an attachment or a detachment at its load: each where
-- it is answered. A take acts at its first load, which for Empty, Ended and a loss without a pin is where it is answered, and for
-- a packet comes before its answer. But a loss after a failed pin acts at the take's second load, where it is answered. `ActsAt`
-- of Within.antt is this table, which each run keeps to

-- the answer is a packet
abbrev pub is_packet : Answer → Bool
is_packet (Taken (Got n p)) = true
is_packet answer = false

abbrev pub is_load : Observed → Bool
is_load (saw.Load head) = true
is_load other = false

abbrev pub is_seat : (seat : ℕ) → Actor → Bool
is_seat i P = false
is_seat i (Seat s) = i == s

-- the answer, if it is a packet
abbrev pub only_packet : Option Answer → Option Answer
only_packet None = None
only_packet (Some a) = if is_packet a then Some a else None

-- the answer, unless it is a packet
abbrev pub but_packet : Answer → Option Answer
but_packet a = if is_packet a then None else Some a

-- the turn is the seat's, and answers it or loads the head
abbrev pub is_reply : (seat : ℕ) → Turn → Bool
is_reply i t = is_seat i t.actor && (is_some t.answer || is_load t.saw)

-- what a seat is answered in these turns before it loads the head: None where that is nothing
abbrev pub reply_to : (seat : ℕ) → List Turn → Option Answer
reply_to i [] = None
reply_to i (t ∷ ts) = if is_reply i t then t.answer else reply_to i ts

-- what a turn without an answer acts with: a take's first load with the packet that it leads to
abbrev pub begun_by : Actor → Observed → (later : List Turn) → Option Answer
begun_by (Seat i) (saw.Load head) later = only_packet (reply_to i later)
begun_by actor other later = None

-- the answer with which a call acts at this turn, before these later ones, if one acts there
abbrev pub acting_answer : Option Answer → Actor → Observed → (later : List Turn) → Option Answer
acting_answer (Some a) actor other later = but_packet a
acting_answer None actor other later = begun_by actor other later

abbrev pub acting : Turn → (later : List Turn) → Option Answer
acting t later = acting_answer t.answer t.actor t.saw later

-- a call that acts: its step, from 0, its actor, and its event
pub record Acted : Type 0 where
  pub step : ℕ
  pub actor : Actor
  pub event : Event

-- the call of a turn, if it acts there
abbrev pub acted_at : (step : ℕ) → Turn → Option Answer → List Acted
acted_at n t None = []
acted_at n t (Some a) = record { step = n; actor = t.actor; event = record { call = t.call; answer = a } } ∷ []

-- the calls that act in these turns, in order, where the first turn is step n
abbrev pub acted : (step : ℕ) → List Turn → List Acted
acted n [] = []
acted n (t ∷ ts) = acted_at n t (acting t ts) ++ acted (n + 1) ts

-- the events of a run, in the order of their acting steps
abbrev pub history_of : List Turn → List Event
history_of turns = map (λ (a : Acted). a.event) (acted 0 turns)

-- an acting call as a trace tells it
abbrev pub event_of : Acted → TraceEvent
event_of a = record { step = a.step; actor = a.actor; answer = a.event.answer }

-- the event of a step, if a call acts there
abbrev pub event_at : (step : ℕ) → Actor → Option Answer → List TraceEvent
event_at n actor None = []
event_at n actor (Some a) = record { step = n; actor = actor; answer = a } ∷ []

-- an actor's calls, by the names that they have in the history of the log
abbrev pub calls_of_actor : Calls → Actor → List Call
calls_of_actor script P = map publisher_call script.publisher
calls_of_actor script (Seat s) = map (seat_call s) (slice_index_or script.seats s [])

-- how many of an actor's calls are answered
abbrev pub answered_of : At → Actor → ℕ
answered_of at P = at.publisher
answered_of at (Seat s) = slice_index_or at.seats s 0

abbrev pub is_actor : Actor → Actor → Bool
is_actor P P = true
is_actor P (Seat t) = false
is_actor (Seat s) P = false
is_actor (Seat s) (Seat t) = s == t

-- the events of an actor among those that act, in order
abbrev pub events_of : Actor → List Acted → List Event
events_of actor [] = []
events_of actor (a ∷ rest) = (if is_actor actor a.actor then a.event ∷ [] else []) ++ events_of actor rest

-- the event of a call that is answered
abbrev pub answered_call : Call → Option Answer → List Event
answered_call call None = []
answered_call call (Some a) = record { call = call; answer = a } ∷ []

abbrev pub answer_of : Actor → Turn → List Event
answer_of actor t = if is_actor actor t.actor then answered_call t.call t.answer else []

-- an actor's answered calls in these turns, in order, with their answers
abbrev pub answers_of : Actor → List Turn → List Event
answers_of actor [] = []
answers_of actor (t ∷ ts) = answer_of actor t ++ answers_of actor ts
