-- What holds of every state of a ring: the slot invariant, and what the phases say; also what never falls over a step.
use Rattle.std.specs.Prelude.{◌≡◌, ◌↔◌, ◌⊎◌, ℕ, ◌+◌, ◌-◌, ◌%◌, ◌<◌, ◌≤◌, ◌==◌, true, false, Option, Some, None, List, [], ◌∷◌, ◌++◌, length, take, slice_get, if◌then◌else◌}
use Rattle.ring_steps.specs.declared.calls.Observed.{Observed}
use Rattle.ring_steps.specs.declared.calls.Observed.TheVariants.{Begin}
use Rattle.ring_steps.specs.declared.words.Slot.{Slot}
use Rattle.ring_steps.specs.declared.views.Publisher.{Publisher}
use Rattle.ring_steps.specs.declared.views.PublisherPhase.{PublisherPhase}
use Rattle.ring_steps.specs.declared.views.PublisherPhase.TheVariants as publishing
use Rattle.ring_steps.specs.declared.views.Seat.{Seat}
use Rattle.ring_steps.specs.declared.views.SeatPhase.{SeatPhase}
use Rattle.ring_steps.specs.declared.views.SeatPhase.TheVariants as seating
use Rattle.ring_steps.specs.Ring.{State, place, slot, word, floor, cursor}
use Rattle.ring_steps.specs.Step.{next_place}

-- 1 where a seat in this phase, whose cursor's slot is at `at`, is between its pin and its unpin at j
abbrev pub pin_of : SeatPhase → (at j : ℕ) → ℕ
pin_of seating.Out at j = 0
pin_of seating.Between at j = 0
pin_of seating.Found at j = 0
pin_of seating.Holding at j = if at == j then 1 else 0
pin_of seating.Reading at j = if at == j then 1 else 0
pin_of seating.Failed at j = if at == j then 1 else 0
pin_of seating.Missed at j = 0

-- how many of these seats are between their pin and their unpin in the slot at place j
abbrev pub pins_of : (keep : ℕ) → List Seat → (j : ℕ) → ℕ
pins_of keep [] j = 0
pins_of keep (x ∷ xs) j = pin_of x.phase (cursor x % (keep + 1)) j + pins_of keep xs j

-- the publisher is between begin and finish
abbrev pub Writes : PublisherPhase → Type 0
Writes publishing.Between = ⊥
Writes publishing.Begun = Unit {0}
Writes publishing.Filling = Unit {0}
Writes publishing.Finished = ⊥

-- the log with the packet that is pending between finish and append
abbrev pub with_pending : PublisherPhase → List (List ℕ) → (packet : List ℕ) → List (List ℕ)
with_pending publishing.Between log packet = log
with_pending publishing.Begun log packet = log
with_pending publishing.Filling log packet = log
with_pending publishing.Finished log packet = log ++ packet ∷ []

-- the number of the slot where the next packet goes: that of the packet that the log stops keeping,
-- or already that of the pending packet
abbrev pub next_number : PublisherPhase → (keep length : ℕ) → ℕ
next_number publishing.Between keep h = h - keep
next_number publishing.Begun keep h = h - keep
next_number publishing.Filling keep h = h - keep
next_number publishing.Finished keep h = h + 1

-- the slot's length cell and bytes are those of the packet, if there is one
abbrev pub HoldsPacket : Slot → Option (List ℕ) → Type 0
HoldsPacket x None = ⊥
HoldsPacket x (Some p) = (x.len ≡ length p) × (take (length p) x.bytes ≡ p)

-- the seat's pin holds
abbrev pub IsHolding : SeatPhase → Type 0
IsHolding seating.Out = ⊥
IsHolding seating.Between = ⊥
IsHolding seating.Found = ⊥
IsHolding seating.Holding = Unit {0}
IsHolding seating.Reading = Unit {0}
IsHolding seating.Failed = ⊥
IsHolding seating.Missed = ⊥

-- the slot at place j has packet n, and nobody writes it
abbrev pub HasNumber : State → (j n : ℕ) → Type 0
HasNumber s j n = ((word s j).number ≡ n + 1) × ((word s j).writing ≡ false)

-- each seat's view has the property
abbrev pub EachSeat : State → (Seat → Type 0) → Type 0
EachSeat s P = (i : ℕ) (x : Seat) → slice_get s.seats i ≡ Some x → P x

-- what the head and the slots' numbers are, by the log
pub record Numbers (s : State) : Type 0 where
  pub size : s.head.length ≡ length s.log
  pub closed : s.head.closed ≡ s.publisher.closed
  -- each packet that the log keeps is in its slot
  pub kept : (n : ℕ) → floor s (length s.log) ≤ n → n < length s.log → HasNumber s (place s n) n
  -- the slot where the next packet goes
  pub next : (word s (next_place s)).number ≡ next_number s.publisher.phase s.keep (length s.log)
  -- a slot that no packet came to
  pub fresh : (j : ℕ) → length s.log < j → j ≤ s.keep → (word s j).number ≡ 0

-- the slot invariant, of one state
pub record SlotInvariant (s : State) : Type 0 where
  -- (a) a word's pins are the number of seats between their pin and unpin there
  pub pins : (j : ℕ) → j ≤ s.keep → (word s j).pins ≡ pins_of s.keep s.seats j
  -- (b) the writing bit stands exactly while the publisher is between begin and finish there
  pub writing : (j : ℕ) → j ≤ s.keep → ((word s j).writing ≡ true) ↔ (Writes s.publisher.phase × (j ≡ next_place s))
  -- (c) the head and the numbers
  pub numbers : Numbers s
  -- (d) a slot with number n + 1 that nobody writes holds packet n, which may be the pending one
  pub packets : (j n : ℕ) → j ≤ s.keep → HasNumber s j n → HoldsPacket (slot s j) (slice_get (with_pending s.publisher.phase s.log s.publisher.packet) n)
  -- (e) where a seat's pin holds, its slot still has the number, and nobody writes it
  pub held : EachSeat s (λ x. IsHolding x.phase → HasNumber s (place s (cursor x)) (cursor x))
  -- (f) writing or a later number in the slot of a packet of the log means that the log stopped keeping it
  pub overtaken : (c : ℕ) → c < length s.log → ((word s (place s c)).writing ≡ true) ⊎ (c + 1 < (word s (place s c)).number)
      → c + s.keep + 1 ≤ length s.log
  -- (g) what a seat saw is a beginning of the log, and all of it where it saw the closed bit
  pub seen : EachSeat s (λ x. (x.seen ≤ length s.log) × (x.saw_closed ≡ true → (x.seen ≡ length s.log) × (s.publisher.closed ≡ true)))

-- what the publisher has done so far in the slot where the next packet goes, by its phase
abbrev pub PublisherDid : PublisherPhase → Slot → Publisher → Type 0
PublisherDid publishing.Between x p = Unit {0}
PublisherDid publishing.Begun x p = p.written ≡ 0
PublisherDid publishing.Filling x p =
    (x.len ≡ length p.packet) × (p.written ≤ length p.packet) × (p.written ≤ length x.bytes) × (take p.written x.bytes ≡ take p.written p.packet)
PublisherDid publishing.Finished x p = Unit {0}

-- what a seat read of packet c so far
pub record HasRead (log : List (List ℕ)) (x : Seat) : Type 0 where
  pub packet : List ℕ
  pub there : slice_get log (cursor x) ≡ Some packet
  pub size : x.length ≡ length packet
  pub within : length x.read ≤ length packet
  pub same : x.read ≡ take (length x.read) packet

-- what a seat knows, by its phase: the log that it saw keeps the packet at its cursor; what it read
-- so far is that packet's; or the log stopped keeping the packet
abbrev pub SeatKnows : SeatPhase → (keep : ℕ) → (log : List (List ℕ)) → Seat → Type 0
SeatKnows seating.Out keep log x = Unit {0}
SeatKnows seating.Between keep log x = Unit {0}
SeatKnows seating.Found keep log x = (cursor x < x.seen) × (x.seen - keep ≤ cursor x)
SeatKnows seating.Holding keep log x = (cursor x < x.seen) × (x.seen - keep ≤ cursor x)
SeatKnows seating.Reading keep log x = (cursor x < x.seen) × ((x.seen - keep ≤ cursor x) × HasRead log x)
SeatKnows seating.Failed keep log x = (cursor x < x.seen) × (cursor x + keep + 1 ≤ length log)
SeatKnows seating.Missed keep log x = (cursor x < x.seen) × (cursor x + keep + 1 ≤ length log)

-- what the phases say of the rest of the state
pub record Phases (s : State) : Type 0 where
  pub keeps : 1 ≤ s.keep
  pub width : length s.slots ≡ s.keep + 1
  pub ended : s.publisher.closed ≡ true → s.publisher.phase ≡ publishing.Between
  pub did : PublisherDid s.publisher.phase (slot s (next_place s)) s.publisher
  pub cursors : EachSeat s (λ x. cursor x ≤ x.seen)
  pub knows : EachSeat s (λ x. SeatKnows x.phase s.keep s.log x)

-- what holds of every state of a ring
pub record Invariant (s : State) : Type 0 where
  pub slots : SlotInvariant s
  pub phases : Phases s

-- a sound state in which this seat is there, with this view, which is in this phase
pub record SeatIs (phase : SeatPhase) (s : State) (i : ℕ) (x : Seat) : Type 0 where
  pub sound : Invariant s
  pub there : slice_get s.seats i ≡ Some x
  pub within : x.phase ≡ phase

-- the same, where the seat's pin holds
pub record SeatHolds (s : State) (i : ℕ) (x : Seat) : Type 0 where
  pub sound : Invariant s
  pub there : slice_get s.seats i ≡ Some x
  pub holds : IsHolding x.phase

-- the packet of the log that is at a seat's cursor
abbrev pub IsNextFor : State → Seat → (packet : List ℕ) → Type 0
IsNextFor s x p = slice_get s.log (cursor x) ≡ Some p

-- a sound state in which the publisher is in this phase
pub record PublisherIs (phase : PublisherPhase) (s : State) : Type 0 where
  pub sound : Invariant s
  pub within : s.publisher.phase ≡ phase

-- what never falls over a step: the head's length, the closed bit, each slot's number, and the log
pub record Grows (old new : State) : Type 0 where
  pub head : old.head.length ≤ new.head.length
  pub closed : old.head.closed ≡ true → new.head.closed ≡ true
  pub numbers : (j : ℕ) → (word old j).number ≤ (word new j).number
  pub log : (more : List (List ℕ)) × (new.log ≡ old.log ++ more)

-- a packet that stands in a slot
pub record Stands (log : List (List ℕ)) (c : ℕ) (x : Slot) : Type 0 where
  pub packet : List ℕ
  pub there : slice_get log c ≡ Some packet
  pub len : x.len ≡ length packet
  pub bytes : take (length packet) x.bytes ≡ packet

-- a begin that failed saw the word where the next packet goes, with as many pins as seats stood between
-- their pin and unpin there: at least one, and at most all
pub record SawPins (s : State) (saw : Observed) : Type 0 where
  pub begun : saw ≡ Begin (word s (next_place s))
  pub counted : (word s (next_place s)).pins ≡ pins_of s.keep s.seats (next_place s)
  pub some : 1 ≤ (word s (next_place s)).pins
  pub within : (word s (next_place s)).pins ≤ length s.seats
