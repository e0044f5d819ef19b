-- The sizes and counts at which a ring's numbers fit, and by which call an actor in its phase may go on.
use Rattle.std.specs.Prelude.{◌≡◌, ℕ, ◌<◌, ◌≤◌, ◌^◌, false, length}
use Rattle.ring_steps.specs.declared.views.PublisherPhase.{PublisherPhase}
use Rattle.ring_steps.specs.declared.views.PublisherPhase.TheVariants as publishing
use Rattle.ring_steps.specs.declared.views.SeatPhase.{SeatPhase}
use Rattle.ring_steps.specs.declared.views.SeatPhase.TheVariants as seating
use Rattle.ring_steps.specs.declared.calls.PublisherCall.{PublisherCall}
use Rattle.ring_steps.specs.declared.calls.PublisherCall.TheVariants.{Publish, Close}
use Rattle.ring_steps.specs.declared.calls.SeatCall.{SeatCall}
use Rattle.ring_steps.specs.declared.calls.SeatCall.TheVariants.{Attach, Take, Detach}
use Rattle.ring_steps.specs.Ring.{State, seat_at, cursor, place, word}
use Rattle.ring_steps.specs.Step.{next_place}
use Rattle.ring_steps.specs.Slots.{EachSeat}

-- a seat's numbers fit, and its slot is there
pub record SeatBounds (s : State) (i : ℕ) : Type 0 where
  pub there : i < length s.seats
  pub loads : (seat_at s i).loads < 2 ^ 63
  pub misses : (seat_at s i).misses < 2 ^ 63
  pub small : s.head.length < 2 ^ 62
  pub within : cursor (seat_at s i) ≤ s.head.length
  pub keep : s.keep < 2 ^ 32
  pub slot : place s (cursor (seat_at s i)) < length s.slots
  pub pins : (word s (place s (cursor (seat_at s i)))).pins < 2 ^ 63

-- the publisher's numbers fit, and its slot is there
pub record PublisherBounds (s : State) : Type 0 where
  pub keep : s.keep < 2 ^ 32
  pub slot : next_place s < length s.slots
  pub failed : s.publisher.failed < 2 ^ 63

-- nothing was counted beyond n so far
pub record CountsTo (n : ℕ) (s : State) : Type 0 where
  pub log : length s.log ≤ n
  pub failed : s.publisher.failed ≤ n
  pub loads : EachSeat s (λ x. x.loads ≤ n)
  pub misses : EachSeat s (λ x. x.misses ≤ n)

-- the ring is of a size that may be made
pub record IsOfSize (s : State) : Type 0 where
  pub keep : s.keep ≤ 4095
  pub seats : length s.seats ≤ 1024

-- there is room for another count of each kind
pub record HasRoom (s : State) : Type 0 where
  pub size : IsOfSize s
  pub counts : CountsTo (2 ^ 60) s

-- a seat in this phase may go on by this call: each seat attaches and detaches in turn, and a take that
-- began goes on
abbrev pub MayCall : SeatPhase → SeatCall → Type 0
MayCall seating.Out (Attach n) = Unit {0}
MayCall seating.Out Take = ⊥
MayCall seating.Out Detach = ⊥
MayCall seating.Between (Attach n) = ⊥
MayCall seating.Between Take = Unit {0}
MayCall seating.Between Detach = Unit {0}
MayCall phase (Attach n) = ⊥
MayCall phase Take = Unit {0}
MayCall phase Detach = ⊥

-- the seat is there, and may go on by this call
pub record SeatReady (s : State) (i : ℕ) (call : SeatCall) : Type 0 where
  pub there : i < length s.seats
  pub may : MayCall (seat_at s i).phase call

-- the publisher in this phase may go on by this call: nothing is begun after the close, and a publish
-- that began goes on with its packet
abbrev pub MayPublish : PublisherPhase → PublisherCall → State → Type 0
MayPublish publishing.Between (Publish p) s = s.publisher.closed ≡ false
MayPublish publishing.Between Close s = s.publisher.closed ≡ false
MayPublish phase (Publish p) s = s.publisher.packet ≡ p
MayPublish phase Close s = ⊥

abbrev pub PublisherReady : State → PublisherCall → Type 0
PublisherReady s call = MayPublish s.publisher.phase call s
