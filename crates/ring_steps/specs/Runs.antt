-- A run of a script: turns that follow one another, each a step of one actor within its next call; it starts at an empty ring.
use Rattle.std.specs.Prelude.{◌≡◌, ℕ, ◌+◌, Option, Some, List, [], ◌∷◌, replicate, slice_get, slice_set, is_some, if◌then◌else◌}
use Rattle.cursor.specs.declared.calls.Call.{Call}
use Rattle.cursor.specs.declared.calls.Answer.{Answer}
use Rattle.ring_steps.specs.declared.calls.Actor.{Actor}
use Rattle.ring_steps.specs.declared.calls.Actor.TheVariants.{P, Seat}
use Rattle.ring_steps.specs.declared.calls.PublisherCall.{PublisherCall}
use Rattle.ring_steps.specs.declared.calls.SeatCall.{SeatCall}
use Rattle.ring_steps.specs.declared.calls.Observed.{Observed}
use Rattle.ring_steps.specs.Answers.{publisher_call, seat_call}
use Rattle.ring_steps.specs.Ring.{State, empty_ring}
use Rattle.ring_steps.specs.Step.{Outcome, SeatStep, PublisherStep}

-- the calls of the publisher and of each seat, in order
pub record Calls : Type 0 where
  pub publisher : List PublisherCall
  pub seats : List (List SeatCall)

-- a ring in use, with how many calls of the publisher and of each seat were answered
pub record At : Type 0 where
  pub ring : State
  pub publisher : ℕ
  pub seats : List ℕ

-- the start: an empty ring, and no call answered
abbrev pub start : (keep seats : ℕ) → At
start keep seats = record { ring = empty_ring keep seats; publisher = 0; seats = replicate seats 0 }

-- one step of a run: who made it, in which call, what it saw, and the answer of the call if it ended it
pub record Turn : Type 0 where
  pub actor : Actor
  pub call : Call
  pub saw : Observed
  pub answer : Option Answer

-- one call more is answered, if this step ended it
abbrev pub answered : ℕ → Option Answer → ℕ
answered n a = if is_some a then n + 1 else n

abbrev pub outcome_of : State → Turn → Outcome
outcome_of s t = record { state = s; saw = t.saw; answer = t.answer }

-- a step of the publisher, within its next call
pub record PublisherMove (script : Calls) (old : At) (t : Turn) (new : At) : Type 0 where
  pub call : PublisherCall
  pub next : slice_get script.publisher old.publisher ≡ Some call
  pub named : t.call ≡ publisher_call call
  pub step : PublisherStep old.ring call (outcome_of new.ring t)
  pub publisher : new.publisher ≡ answered old.publisher t.answer
  pub seats : new.seats ≡ old.seats

-- a step of a seat, within its next call
pub record SeatMove (script : Calls) (seat : ℕ) (old : At) (t : Turn) (new : At) : Type 0 where
  pub calls : List SeatCall
  pub script_has : slice_get script.seats seat ≡ Some calls
  pub count : ℕ
  pub counted : slice_get old.seats seat ≡ Some count
  pub call : SeatCall
  pub next : slice_get calls count ≡ Some call
  pub named : t.call ≡ seat_call seat call
  pub step : SeatStep old.ring seat call (outcome_of new.ring t)
  pub publisher : new.publisher ≡ old.publisher
  pub seats : new.seats ≡ slice_set old.seats seat (answered count t.answer)

abbrev pub MoveBy : Actor → Calls → At → Turn → At → Type 0
MoveBy P script old t new = PublisherMove script old t new
MoveBy (Seat s) script old t new = SeatMove script s old t new

abbrev pub Move : Calls → At → Turn → At → Type 0
Move script old t new = MoveBy t.actor script old t new

-- these steps may follow one another
abbrev pub Ran : Calls → (old : At) → List Turn → (new : At) → Type 0
Ran script old [] new = new ≡ old
Ran script old (t ∷ ts) new = (mid : At) × Move script old t mid × Ran script mid ts new
