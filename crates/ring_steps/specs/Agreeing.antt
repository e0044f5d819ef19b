-- A ring agrees with a script: each actor's phase is one within its next call.
use Rattle.std.specs.Prelude.{◌≡◌, ℕ, true, false, Some, List, length, take, slice_get}
use Rattle.ring_steps.specs.declared.calls.Actor.{Actor}
use Rattle.ring_steps.specs.declared.calls.PublisherCall.{PublisherCall}
use Rattle.ring_steps.specs.declared.calls.PublisherCall.TheVariants.{Publish}
use Rattle.ring_steps.specs.declared.calls.SeatCall.{SeatCall}
use Rattle.ring_steps.specs.declared.calls.SeatCall.TheVariants.{Take}
use Rattle.ring_steps.specs.declared.calls.Stepped.{Stepped}
use Rattle.ring_steps.specs.declared.views.PublisherPhase.{PublisherPhase}
use Rattle.ring_steps.specs.declared.views.PublisherPhase.TheVariants as publishing
use Rattle.ring_steps.specs.declared.views.Seat.{Seat}
use Rattle.ring_steps.specs.declared.views.SeatPhase.{SeatPhase}
use Rattle.ring_steps.specs.declared.views.SeatPhase.TheVariants as seating
use Rattle.ring_steps.specs.Runs.{At, Calls, Move, Turn}
use Rattle.ring_steps.specs.Scripts.{is_attached_after, is_closed_after}

-- the publisher's phase is one within its next call
abbrev pub PublisherAgrees : PublisherPhase → (calls : List PublisherCall) → (next : ℕ) → (packet : List ℕ) → Type 0
PublisherAgrees publishing.Between calls n p = Unit {0}
PublisherAgrees publishing.Begun calls n p = slice_get calls n ≡ Some (Publish p)
PublisherAgrees publishing.Filling calls n p = slice_get calls n ≡ Some (Publish p)
PublisherAgrees publishing.Finished calls n p = slice_get calls n ≡ Some (Publish p)

-- a seat that makes these calls is within this one, which is a take
pub record IsTaking (calls : List SeatCall) (n : ℕ) : Type 0 where
  pub attached : is_attached_after (take n calls) ≡ true
  pub next : slice_get calls n ≡ Some Take

-- a seat's phase is one within its next call, after those before it
abbrev pub SeatAgrees : SeatPhase → (calls : List SeatCall) → (next : ℕ) → Type 0
SeatAgrees seating.Out calls n = is_attached_after (take n calls) ≡ false
SeatAgrees seating.Between calls n = is_attached_after (take n calls) ≡ true
SeatAgrees phase calls n = IsTaking calls n

-- the ring is within the next call of each actor
pub record Agrees (calls : Calls) (at : At) : Type 0 where
  pub publisher : PublisherAgrees at.ring.publisher.phase calls.publisher at.publisher at.ring.publisher.packet
  pub closed : at.ring.publisher.closed ≡ is_closed_after (take at.publisher calls.publisher)
  pub views : length at.ring.seats ≡ length calls.seats
  pub counts : length at.seats ≡ length calls.seats
  pub seats : (i : ℕ) (x : Seat) (own : List SeatCall) (n : ℕ) → slice_get at.ring.seats i ≡ Some x → slice_get calls.seats i ≡ Some own → slice_get at.seats i ≡ Some n
      → SeatAgrees x.phase own n

-- a turn of this actor, which saw and answered this
pub record GoesOn (calls : Calls) (old : At) (actor : Actor) (new : At) (stepped : Stepped) : Type 0 where
  pub turn : Turn
  pub by : turn.actor ≡ actor
  pub saw : turn.saw ≡ stepped.saw
  pub answer : turn.answer ≡ stepped.answer
  pub move : Move calls old turn new
