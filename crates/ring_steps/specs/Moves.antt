-- Steps one after another that end no call: reads in place, a packet written or read in one move; a state but for what was read.
use Rattle.std.specs.Prelude.{◌≡◌, ◌<◌, ◌++◌, ℕ, None, List, [], ◌∷◌, length, drop, map, slice_index_or}
use Rattle.ring_steps.specs.declared.calls.Observed.{Observed}
use Rattle.ring_steps.specs.declared.calls.Observed.TheVariants as saw
use Rattle.ring_steps.specs.declared.views.PublisherPhase.TheVariants as publishing
use Rattle.ring_steps.specs.declared.views.Seat.{Seat}
use Rattle.ring_steps.specs.declared.views.SeatPhase.{SeatPhase}
use Rattle.ring_steps.specs.declared.views.SeatPhase.TheVariants as seating
use Rattle.ring_steps.specs.declared.words.Slot.{Slot}
use Rattle.ring_steps.specs.Ring.{State, slot, with_publisher, with_seat, with_slot}
use Rattle.ring_steps.specs.RingSteps.{By, Cell, RingStep, ReadStep, byte_cell, length_cell}
use Rattle.ring_steps.specs.Step.{Outcome, next_place}

-- what a seat sees that reads these cells in place, one after another
abbrev pub ReadsInPlace : State → (seat : ℕ) → List Cell → List Observed → State → Type 0
ReadsInPlace s i [] [] t = t ≡ s
ReadsInPlace s i (cell ∷ cells) (now ∷ later) t = (u : State) × ReadStep s i cell (record { state = u; saw = now; answer = None }) × ReadsInPlace u i cells later t
ReadsInPlace s i cells seen t = ⊥

-- the cell has a part of this packet
abbrev pub IsCellOf : (packet : List ℕ) → Cell → Type 0
IsCellOf p length_cell = Unit {0}
IsCellOf p (byte_cell k) = k < length p

-- what a read of that part sees
abbrev pub part_seen : (packet : List ℕ) → Cell → Observed
part_seen p length_cell = saw.Length (length p)
part_seen p (byte_cell k) = saw.Byte (slice_index_or p k 0)

-- steps by these, none of which answers a call
abbrev pub Steps : State → List By → State → Type 0
Steps s [] t = t ≡ s
Steps s (by ∷ later) t = (o : Outcome) × RingStep s by o × (o.answer ≡ None) × Steps o.state later t

-- a slot with the length and the bytes of a packet, and what stood after these
abbrev pub slot_of : (packet : List ℕ) → Slot → Slot
slot_of p x = record x { len = length p; bytes = p ++ drop (length p) x.bytes }

-- WRITE ALL. The publisher writes the length cell and all bytes between begin and finish
abbrev pub write_all : State → State
write_all s = with_publisher (with_slot s (next_place s) (slot_of s.publisher.packet (slot s (next_place s))))
    (record s.publisher { phase = publishing.Filling; written = length s.publisher.packet })

-- READ ALL. A seat has read the length and all bytes of its packet between pin and unpin
abbrev pub read_all : State → (seat : ℕ) → Seat → (packet : List ℕ) → State
read_all s i x p = with_seat s i (record x { phase = seating.Reading; length = length p; read = p })

-- a view but for how far its call has read: the length cell and the bytes that were read
abbrev pub but_read : SeatPhase → SeatPhase
but_read seating.Reading = seating.Holding
but_read phase = phase

abbrev pub without_progress : Seat → Seat
without_progress x = record x { phase = but_read x.phase; length = 0; read = [] }

-- the state but for how far the calls have read
abbrev pub rest_of : State → State
rest_of s = record s { seats = map without_progress s.seats }
