-- Every kind of step of a ring, within a call or outside the calls: what it changes, what it leaves, and what seats see over it.
use Rattle.std.specs.Prelude.{◌≡◌, ◌≢◌, ◌≤◌, ◌++◌, ℕ, Bool, true, false, None, Some, List, take, slice_get, slice_index_or}
use Rattle.ring_steps.specs.declared.calls.Observed.{Observed}
use Rattle.ring_steps.specs.declared.calls.Observed.TheVariants as saw
use Rattle.ring_steps.specs.declared.calls.PublisherCall.{PublisherCall}
use Rattle.ring_steps.specs.declared.calls.SeatCall.{SeatCall}
use Rattle.ring_steps.specs.declared.views.Seat.{Seat}
use Rattle.ring_steps.specs.declared.views.SeatPhase.{SeatPhase}
use Rattle.ring_steps.specs.declared.views.SeatPhase.TheVariants as seating
use Rattle.ring_steps.specs.declared.words.Slot.{Slot}
use Rattle.ring_steps.specs.Ring.{State, cursor, place, seat_at, slot, with_seat}
use Rattle.ring_steps.specs.Slots.{Invariant, IsHolding}
use Rattle.ring_steps.specs.Step.{Outcome, PublisherStep, SeatStep, loaded, next_place}

-- a cell of a slot beside its word
pub data Cell : Type 0 where
  length_cell : Cell
  byte_cell : (place : ℕ) → Cell

-- who makes a step: the publisher or a seat within a call; a seat between two calls, by a load alone; or
-- a seat that reads its packet in place
pub data By : Type 0 where
  by_publisher : PublisherCall → By
  by_seat : (seat : ℕ) → SeatCall → By
  by_look : (seat : ℕ) → By
  by_read : (seat : ℕ) → Cell → By

-- a seat in this phase is between two calls, attached or not
abbrev pub IsIdle : SeatPhase → Type 0
IsIdle seating.Out = Unit {0}
IsIdle seating.Between = Unit {0}
IsIdle phase = ⊥

-- LOOK. A load outside the calls raises what the seat saw and its loads, and changes no phase
pub record LookStep (s : State) (i : ℕ) (o : Outcome) : Type 0 where
  pub view : Seat
  pub there : slice_get s.seats i ≡ Some view
  pub idle : IsIdle view.phase
  pub acts : o ≡ record { state = with_seat s i (loaded s view); saw = saw.Load s.head; answer = None }

-- what a read of a cell sees
abbrev pub cell_seen : Slot → Cell → Observed
cell_seen x length_cell = saw.Length x.len
cell_seen x (byte_cell k) = saw.Byte (slice_index_or x.bytes k 0)

-- READ IN PLACE. A seat whose pin holds reads a cell of its slot, and changes nothing
pub record ReadStep (s : State) (i : ℕ) (cell : Cell) (o : Outcome) : Type 0 where
  pub view : Seat
  pub there : slice_get s.seats i ≡ Some view
  pub holds : IsHolding view.phase
  pub acts : o ≡ record { state = s; saw = cell_seen (slot s (place s (cursor view))) cell; answer = None }

-- one step of the ring, whoever makes it
abbrev pub RingStep : State → By → Outcome → Type 0
RingStep s (by_publisher call) o = PublisherStep s call o
RingStep s (by_seat i call) o = SeatStep s i call o
RingStep s (by_look i) o = LookStep s i o
RingStep s (by_read i cell) o = ReadStep s i cell o

-- the same from a state that has the invariant
pub record SoundStep (s : State) (by : By) (o : Outcome) : Type 0 where
  pub sound : Invariant s
  pub step : RingStep s by o

-- a slot's length cell and bytes are as before
abbrev pub SameCells : (old new : State) (place : ℕ) → Type 0
SameCells s t j = ((slot t j).len ≡ (slot s j).len) × ((slot t j).bytes ≡ (slot s j).bytes)

-- the step stores the head
abbrev pub stores_head : Observed → Bool
stores_head (saw.Append n) = true
stores_head saw.Close = true
stores_head other = false

-- a step of the publisher changes its view, the slot where the next packet goes, and nothing else but
-- where it stores the head
pub record PublisherAlone (s : State) (o : Outcome) : Type 0 where
  pub keep : o.state.keep ≡ s.keep
  pub seats : o.state.seats ≡ s.seats
  pub slots : (j : ℕ) → j ≢ next_place s → slot o.state j ≡ slot s j
  pub head : stores_head o.saw ≡ false → (o.state.head ≡ s.head) × (o.state.log ≡ s.log)

-- a step of a seat changes its view, the word of the slot of the packet at its cursor, and nothing else
pub record SeatAlone (s : State) (i : ℕ) (t : State) : Type 0 where
  pub keep : t.keep ≡ s.keep
  pub head : t.head ≡ s.head
  pub log : t.log ≡ s.log
  pub publisher : t.publisher ≡ s.publisher
  pub seats : (k : ℕ) → k ≢ i → slice_get t.seats k ≡ slice_get s.seats k
  pub slots : (j : ℕ) → j ≢ place s (cursor (seat_at s i)) → slot t j ≡ slot s j
  pub cells : (j : ℕ) → SameCells s t j

-- a step changes its own actor's view alone, and one slot at most
abbrev pub ChangesAlone : By → State → Outcome → Type 0
ChangesAlone (by_publisher call) s o = PublisherAlone s o
ChangesAlone (by_seat i call) s o = SeatAlone s i o.state
ChangesAlone (by_look i) s o = SeatAlone s i o.state × ((j : ℕ) → slot o.state j ≡ slot s j)
ChangesAlone (by_read i cell) s o = o.state ≡ s

-- what a seat saw goes on from one view to the next: the log that it saw begins the later one, and is
-- that one where it saw the closed bit
pub record SeesOn (old : State) (x : Seat) (new : State) (y : Seat) : Type 0 where
  pub seen : x.seen ≤ y.seen
  pub log : (more : List (List ℕ)) × (take y.seen new.log ≡ take x.seen old.log ++ more)
  pub closed : x.saw_closed ≡ true → (y.saw_closed ≡ true) × (y.seen ≡ x.seen)

-- so it is for each seat
abbrev pub AllSeeOn : (old new : State) → Type 0
AllSeeOn s t = (i : ℕ) (x y : Seat) → slice_get s.seats i ≡ Some x → slice_get t.seats i ≡ Some y → SeesOn s x t y

-- the slot of each seat whose pin holds keeps its length cell and bytes
abbrev pub HeldStay : (old new : State) → Type 0
HeldStay s t = (i : ℕ) (x : Seat) → slice_get s.seats i ≡ Some x → IsHolding x.phase → SameCells s t (place s (cursor x))
