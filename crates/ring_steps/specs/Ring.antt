-- The state of a ring: what it consists of, its slots by their places, one part of it changed, and a ring that nobody used yet.
use Rattle.std.specs.Prelude.{◌≡◌, ℕ, ◌+◌, ◌-◌, ◌%◌, false, List, [], ◌∷◌, ◌++◌, length, nat_lt, slice_set, slice_index_or, replicate, if◌then◌else◌}
use Rattle.cursor.specs.Account.{cursor_of}
use Rattle.ring_steps.specs.declared.words.Word.{Word}
use Rattle.ring_steps.specs.declared.words.Head.{Head}
use Rattle.ring_steps.specs.declared.words.Slot.{Slot}
use Rattle.ring_steps.specs.declared.views.Publisher.{Publisher}
use Rattle.ring_steps.specs.declared.views.PublisherPhase.TheVariants as publishing
use Rattle.ring_steps.specs.declared.views.Seat.{Seat}
use Rattle.ring_steps.specs.declared.views.SeatPhase.TheVariants as seating

-- the ring's state: how many packets it keeps, the head word, the slots, the log as the publisher
-- knows it, the publisher's view, and each seat's view
pub record State : Type 0 where
  pub keep : ℕ
  pub head : Head
  pub slots : List Slot
  pub log : List (List ℕ)
  pub publisher : Publisher
  pub seats : List Seat

-- the place of packet n's slot: a ring that keeps K packets has K + 1 slots
abbrev pub place : State → ℕ → ℕ
place s n = n % (s.keep + 1)

-- the word of a slot to which no packet came
abbrev pub fresh_word : Word
fresh_word = record { pins = 0; writing = false; number = 0 }

-- such a slot
abbrev pub fresh_slot : Slot
fresh_slot = record { word = fresh_word; len = 0; bytes = [] }

-- the slot at a place
abbrev pub slot : State → ℕ → Slot
slot s j = slice_index_or s.slots j fresh_slot

-- the word at a place
abbrev pub word : State → ℕ → Word
word s j = (slot s j).word

-- the number of the oldest packet that a log of length h keeps
abbrev pub floor : State → ℕ → ℕ
floor s h = h - s.keep

-- the number of the next packet for a seat
abbrev pub cursor : Seat → ℕ
cursor x = cursor_of x.account

-- the state with one slot, one seat's view, or the publisher's view changed
abbrev pub with_slot : State → (place : ℕ) → Slot → State
with_slot s j x = record s { slots = slice_set s.slots j x }

abbrev pub with_seat : State → (seat : ℕ) → Seat → State
with_seat s i x = record s { seats = slice_set s.seats i x }

abbrev pub with_publisher : State → Publisher → State
with_publisher s p = record s { publisher = p }

-- bytes with one of them written: in its place, or at the end
abbrev pub put : List ℕ → (place : ℕ) → (byte : ℕ) → List ℕ
put xs i b = if nat_lt i (length xs) then slice_set xs i b else xs ++ b ∷ []

abbrev pub new_publisher : Publisher
new_publisher = record { closed = false; phase = publishing.Between; packet = []; written = 0; failed = 0; pins = 0 }

abbrev pub new_seat : Seat
new_seat = record {
  phase = seating.Out;
  account = record { start = 0; taken = 0; lost = 0 };
  seen = 0;
  saw_closed = false;
  loads = 0;
  misses = 0;
  length = 0;
  read = [];
}

-- the ring that nobody used yet, of these slots
abbrev pub new_ring : (keep seats : ℕ) → List Slot → State
new_ring keep seats slots = record {
  keep = keep;
  head = record { length = 0; closed = false };
  slots = slots;
  log = [];
  publisher = new_publisher;
  seats = replicate seats new_seat;
}

abbrev pub empty_ring : (keep seats : ℕ) → State
empty_ring keep seats = new_ring keep seats (replicate (keep + 1) fresh_slot)

-- the slots of a ring that nobody used yet: no packet came to them, whatever their length cells and
-- bytes are
pub record AreFresh (keep : ℕ) (slots : List Slot) : Type 0 where
  pub width : length slots ≡ keep + 1
  pub words : (j : ℕ) → (slice_index_or slots j fresh_slot).word ≡ fresh_word

-- the ring with one seat more
abbrev pub with_new_seat : State → State
with_new_seat s = record s { seats = s.seats ++ new_seat ∷ [] }

-- the view of a seat that is there
abbrev pub seat_at : State → (seat : ℕ) → Seat
seat_at s i = slice_index_or s.seats i new_seat
