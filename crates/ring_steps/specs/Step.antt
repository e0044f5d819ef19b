-- Each atomic step of a seat and of the publisher: where it leads, what it sees and what it answers, by the phase and the call.
use Rattle.std.specs.Prelude.{◌≡◌, ℕ, ◌+◌, ◌-◌, ◌==◌, ◌&&◌, not, nat_lt, Bool, true, false, Option, Some, None, List, [], ◌∷◌, ◌++◌, length, slice_get, slice_index_or, if◌then◌else◌}
use Rattle.cursor.specs.declared.takes.Delivery.TheVariants.{Got, Lost, Empty, Ended}
use Rattle.cursor.specs.declared.calls.Answer.{Answer}
use Rattle.cursor.specs.declared.calls.Answer.TheVariants.{Appended, Refused, Closed, Attached, Taken, Detached}
use Rattle.cursor.specs.Log.{back_from}
use Rattle.ring_steps.specs.declared.words.Word.{Word}
use Rattle.ring_steps.specs.declared.words.Slot.{Slot}
use Rattle.ring_steps.specs.declared.calls.PublisherCall.{PublisherCall}
use Rattle.ring_steps.specs.declared.calls.PublisherCall.TheVariants.{Publish, Close}
use Rattle.ring_steps.specs.declared.calls.SeatCall.{SeatCall}
use Rattle.ring_steps.specs.declared.calls.SeatCall.TheVariants.{Attach, Take, Detach}
use Rattle.ring_steps.specs.declared.calls.Observed.{Observed}
use Rattle.ring_steps.specs.declared.calls.Observed.TheVariants as saw
use Rattle.ring_steps.specs.declared.calls.Stepped.{Stepped}
use Rattle.ring_steps.specs.declared.views.PublisherPhase.{PublisherPhase}
use Rattle.ring_steps.specs.declared.views.PublisherPhase.TheVariants as publishing
use Rattle.ring_steps.specs.declared.views.Seat.{Seat}
use Rattle.ring_steps.specs.declared.views.SeatPhase.{SeatPhase}
use Rattle.ring_steps.specs.declared.views.SeatPhase.TheVariants as seating
use Rattle.ring_steps.specs.Ring.{State, place, slot, word, floor, cursor, with_slot, with_seat, with_publisher, put}

-- what one step leads to: the state after it, what it saw, and the answer of the call that it ends
pub record Outcome : Type 0 where
  pub state : State
  pub saw : Observed
  pub answer : Option Answer

-- the outcome of a step that led to this state
abbrev pub outcome : State → Stepped → Outcome
outcome s t = record { state = s; saw = t.saw; answer = t.answer }

-- LOAD. A seat's view after one load of the head
abbrev pub loaded : State → Seat → Seat
loaded s x = record x { seen = s.head.length; saw_closed = s.head.closed; loads = x.loads + 1 }

-- an attachment begins so many packets back from the head's length
abbrev pub attach : State → (seat : ℕ) → Seat → (back : ℕ) → Outcome
attach s i x n = record {
  state = with_seat s i (record (loaded s x) { phase = seating.Between; account = record { start = back_from s.keep n s.head.length; taken = 0; lost = 0 } });
  saw = saw.Load s.head;
  answer = Some (Attached (back_from s.keep n s.head.length));
}

-- a detachment tells the account, and how many packets were left
abbrev pub detach : State → (seat : ℕ) → Seat → Outcome
detach s i x = record {
  state = with_seat s i (record (loaded s x) { phase = seating.Out });
  saw = saw.Load s.head;
  answer = Some (Detached (record { taken = x.account.taken; lost = x.account.lost; left = s.head.length - cursor x }));
}

-- a load that ends a take with so many packets lost
abbrev pub lose : State → (seat : ℕ) → Seat → (count : ℕ) → Outcome
lose s i x k = record {
  state = with_seat s i (record (loaded s x) { phase = seating.Between; account = record x.account { lost = x.account.lost + k } });
  saw = saw.Load s.head;
  answer = Some (Taken (Lost k));
}

-- a load that ends a take at the end of the log
abbrev pub end_take : State → (seat : ℕ) → Seat → Outcome
end_take s i x = record {
  state = with_seat s i (loaded s x);
  saw = saw.Load s.head;
  answer = Some (Taken (if s.head.closed then Ended else Empty));
}

-- a load after which the packet at the cursor is to be pinned
abbrev pub find_packet : State → (seat : ℕ) → Seat → Outcome
find_packet s i x = record {
  state = with_seat s i (record (loaded s x) { phase = seating.Found });
  saw = saw.Load s.head;
  answer = None;
}

-- a take's first load
abbrev pub first_load : State → (seat : ℕ) → Seat → Outcome
first_load s i x =
    if s.head.length == cursor x then end_take s i x
    else (if nat_lt (cursor x) (floor s s.head.length) then lose s i x (floor s s.head.length - cursor x)
    else find_packet s i x)

-- its second load, after a failed pin
abbrev pub second_load : State → (seat : ℕ) → Seat → Outcome
second_load s i x = lose s i x (floor s s.head.length - cursor x)

-- PIN and UNPIN. A slot with other pins, and nothing else changed
abbrev pub with_pins : Slot → ℕ → Slot
with_pins x n = record x { word = record x.word { pins = n } }

-- whether a pin for packet c holds: the word that it saw has the packet's number, and no writing
abbrev pub holds : Word → (c : ℕ) → Bool
holds w c = (w.number == c + 1) && not w.writing

abbrev pub pin : State → (seat : ℕ) → Seat → Outcome
pin s i x =
    let j = place s (cursor x) in
    record {
      state = with_seat (with_slot s j (with_pins (slot s j) ((word s j).pins + 1))) i
          (record x { phase = if holds (word s j) (cursor x) then seating.Holding else seating.Failed });
      saw = saw.Pin (word s j);
      answer = None;
    }

-- an unpin leaves the seat with this view
abbrev pub unpin_to : State → (seat : ℕ) → Seat → Seat → Option Answer → Outcome
unpin_to s i x y answer =
    let j = place s (cursor x) in
    record {
      state = with_seat (with_slot s j (with_pins (slot s j) ((word s j).pins - 1))) i y;
      saw = saw.Unpin (word s j);
      answer = answer;
    }

-- the unpin after the last byte answers the packet that was read
abbrev pub unpin : State → (seat : ℕ) → Seat → Outcome
unpin s i x = unpin_to s i x
    (record x { phase = seating.Between; account = record x.account { taken = x.account.taken + 1 } })
    (Some (Taken (Got (cursor x) (record { tag = 0; bytes = x.read }))))

-- the unpin after a pin that failed, which it counts
abbrev pub unpin_failed : State → (seat : ℕ) → Seat → Outcome
unpin_failed s i x = unpin_to s i x (record x { phase = seating.Missed; misses = x.misses + 1 }) None

-- READS of a length cell and of one byte
abbrev pub read_length : State → (seat : ℕ) → Seat → Outcome
read_length s i x =
    let n = (slot s (place s (cursor x))).len in
    record { state = with_seat s i (record x { phase = seating.Reading; length = n; read = [] }); saw = saw.Length n; answer = None }

abbrev pub read_byte : State → (seat : ℕ) → Seat → Outcome
read_byte s i x =
    let b = slice_index_or (slot s (place s (cursor x))).bytes (length x.read) 0 in
    record { state = with_seat s i (record x { read = x.read ++ b ∷ [] }); saw = saw.Byte b; answer = None }

-- the next byte, or the unpin after the last one
abbrev pub read_on : State → (seat : ℕ) → Seat → Outcome
read_on s i x = if nat_lt (length x.read) x.length then read_byte s i x else unpin s i x

-- a seat's step, by its phase and its call
abbrev pub SeatActs : SeatPhase → SeatCall → State → (seat : ℕ) → Seat → Outcome → Type 0
SeatActs seating.Out (Attach n) s i x o = o ≡ attach s i x n
SeatActs seating.Between Detach s i x o = o ≡ detach s i x
SeatActs seating.Between Take s i x o = o ≡ first_load s i x
SeatActs seating.Found Take s i x o = o ≡ pin s i x
SeatActs seating.Holding Take s i x o = o ≡ read_length s i x
SeatActs seating.Reading Take s i x o = o ≡ read_on s i x
SeatActs seating.Failed Take s i x o = o ≡ unpin_failed s i x
SeatActs seating.Missed Take s i x o = o ≡ second_load s i x
-- no other call has a step there
SeatActs phase call s i x o = ⊥

-- BEGIN. The place where the next packet goes
abbrev pub next_place : State → ℕ
next_place s = place s (length s.log)

-- whether the word is the one that the publisher knows: the old number, no pins and no writing
abbrev pub is_known : State → Word → Bool
is_known s w = ((w.number == floor s (length s.log)) && (w.pins == 0)) && not w.writing

-- the exchange of the word for the same with the writing bit
abbrev pub begun : State → (packet : List ℕ) → Outcome
begun s p =
    let x = slot s (next_place s) in
    record {
      state = with_publisher (with_slot s (next_place s) (record x { word = record x.word { writing = true } }))
          (record s.publisher { phase = publishing.Begun; packet = p; written = 0 });
      saw = saw.Begin x.word;
      answer = None;
    }

-- the exchange failed: no word is changed, and the publisher keeps the pins that it saw
abbrev pub refused : State → Outcome
refused s =
    let w = word s (next_place s) in
    record {
      state = with_publisher s (record s.publisher { failed = s.publisher.failed + 1; pins = w.pins });
      saw = saw.Begin w;
      answer = Some Refused;
    }

abbrev pub begin : State → (packet : List ℕ) → Outcome
begin s p = if is_known s (word s (next_place s)) then begun s p else refused s

-- WRITES of the length cell and of one byte
abbrev pub write_length : State → Outcome
write_length s =
    let n = length s.publisher.packet in
    record {
      state = with_publisher (with_slot s (next_place s) (record (slot s (next_place s)) { len = n }))
          (record s.publisher { phase = publishing.Filling });
      saw = saw.Length n;
      answer = None;
    }

abbrev pub write_byte : State → Outcome
write_byte s =
    let x = slot s (next_place s) in
    let k = s.publisher.written in
    let b = slice_index_or s.publisher.packet k 0 in
    record {
      state = with_publisher (with_slot s (next_place s) (record x { bytes = put x.bytes k b }))
          (record s.publisher { written = k + 1 });
      saw = saw.Byte b;
      answer = None;
    }

-- FINISH. One addition clears the writing bit and raises the number, and leaves the pins
abbrev pub finish : State → Outcome
finish s =
    let x = slot s (next_place s) in
    record {
      state = with_publisher (with_slot s (next_place s) (record x { word = record x.word { writing = false; number = length s.log + 1 } }))
          (record s.publisher { phase = publishing.Finished });
      saw = saw.Finish x.word;
      answer = None;
    }

-- the next byte, or the finish after the last one
abbrev pub write_on : State → Outcome
write_on s = if nat_lt s.publisher.written (length s.publisher.packet) then write_byte s else finish s

-- APPEND. The head is stored with the next length, and the log grows by the pending packet
abbrev pub append : State → Outcome
append s = record {
  state = record s {
    head = record { length = length s.log + 1; closed = false };
    log = s.log ++ s.publisher.packet ∷ [];
    publisher = record s.publisher { phase = publishing.Between; packet = [] };
  };
  saw = saw.Append (length s.log + 1);
  answer = Some (Appended (length s.log));
}

-- CLOSE. The head is stored with its closed bit
abbrev pub close : State → Outcome
close s = record {
  state = record s { head = record { length = length s.log; closed = true }; publisher = record s.publisher { closed = true } };
  saw = saw.Close;
  answer = Some Closed;
}

-- the publisher's step, by its phase and its call
abbrev pub PublisherActs : PublisherPhase → PublisherCall → State → Outcome → Type 0
PublisherActs publishing.Between (Publish p) s o = (s.publisher.closed ≡ false) × (o ≡ begin s p)
PublisherActs publishing.Between Close s o = (s.publisher.closed ≡ false) × (o ≡ close s)
PublisherActs publishing.Begun (Publish p) s o = (s.publisher.packet ≡ p) × (o ≡ write_length s)
PublisherActs publishing.Filling (Publish p) s o = (s.publisher.packet ≡ p) × (o ≡ write_on s)
PublisherActs publishing.Finished (Publish p) s o = (s.publisher.packet ≡ p) × (o ≡ append s)
-- no other call has a step there
PublisherActs phase call s o = ⊥

-- one step of a seat in its call
pub record SeatStep (s : State) (seat : ℕ) (call : SeatCall) (o : Outcome) : Type 0 where
  pub view : Seat
  pub there : slice_get s.seats seat ≡ Some view
  pub acts : SeatActs view.phase call s seat view o

-- one step of the publisher in its call
abbrev pub PublisherStep : State → PublisherCall → Outcome → Type 0
PublisherStep s call o = PublisherActs s.publisher.phase call s o
