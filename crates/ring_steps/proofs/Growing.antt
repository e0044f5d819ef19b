-- Over a step of a seat or of the publisher nothing falls: the head's length, the closed bit, the slots' numbers and the log.
use Rattle.std.proofs.Common.{◌≡◌, ℕ, ◌+◌, ◌-◌, ◌==◌, true, false, [], ◌∷◌, length, append-nil, refl, sym, ap, arith, inl, inr, nat_lt}
use Rattle.ring_steps.specs.declared.words.Slot.{Slot}
use Rattle.ring_steps.specs.declared.calls.PublisherCall.{PublisherCall}
use Rattle.ring_steps.specs.declared.calls.PublisherCall.TheVariants.{Publish, Close}
use Rattle.ring_steps.specs.declared.calls.SeatCall.{SeatCall}
use Rattle.ring_steps.specs.declared.calls.SeatCall.TheVariants.{Attach, Take, Detach}
use Rattle.ring_steps.specs.declared.views.Seat.{Seat}
use Rattle.ring_steps.specs.declared.views.PublisherPhase.{PublisherPhase}
use Rattle.ring_steps.specs.declared.views.PublisherPhase.TheVariants as publishing
use Rattle.ring_steps.specs.declared.views.SeatPhase.{SeatPhase}
use Rattle.ring_steps.specs.declared.views.SeatPhase.TheVariants as seating
use Rattle.ring_steps.specs.Ring.{State, slot, word, floor, cursor, with_seat, with_slot}
use Rattle.ring_steps.specs.Step.{Outcome, with_pins, SeatActs, SeatStep, PublisherActs, PublisherStep, finish, append, is_known, next_place}
use Rattle.ring_steps.specs.Slots.{Invariant, Grows}
use Rattle.ring_steps.proofs.Places.{pins_alone, by_test}
use Rattle.ring_steps.proofs.Begins.{part_same, next_set}
use Rattle.ring_steps.proofs.Writing.{is_open}

-- a view changes
pub view_grows : (s : State) (i : ℕ) (y : Seat) → Grows s (with_seat s i y)
view_grows s i y = record { head = omega arith; closed = λ e. e; numbers = λ j. omega arith; log = ([], sym (append-nil s.log)) }

-- pins change
pub pins_grow : (s : State) (j n i : ℕ) (y : Seat) → Grows s (with_seat (with_slot s j (with_pins (slot s j) n)) i y)
pins_grow s j n i y = record {
  head = omega arith;
  closed = λ e. e;
  numbers = λ k. (let same = (pins_alone s.slots j n k).0 in omega arith);
  log = ([], sym (append-nil s.log));
}

pub seat_acts_grow : (phase : SeatPhase) (call : SeatCall) (s : State) (i : ℕ) (x : Seat) (o : Outcome) → SeatActs phase call s i x o → Grows s o.state
seat_acts_grow seating.Out (Attach n) s i x o acts = rw acts (view_grows s i _)
seat_acts_grow seating.Between Detach s i x o acts = rw acts (view_grows s i _)
seat_acts_grow seating.Between Take s i x o acts =
    rw acts (by_test (s.head.length == cursor x) (λ e. rw e (view_grows s i _))
    (λ e. rw e (by_test (nat_lt (cursor x) (floor s s.head.length)) (λ f. rw f (view_grows s i _)) (λ f. rw f (view_grows s i _)))))
seat_acts_grow seating.Found Take s i x o acts = rw acts (pins_grow s _ _ i _)
seat_acts_grow seating.Holding Take s i x o acts = rw acts (view_grows s i _)
seat_acts_grow seating.Reading Take s i x o acts =
    rw acts (by_test (nat_lt (length x.read) x.length) (λ e. rw e (view_grows s i _)) (λ e. rw e (pins_grow s _ _ i _)))
seat_acts_grow seating.Failed Take s i x o acts = rw acts (pins_grow s _ _ i _)
seat_acts_grow seating.Missed Take s i x o acts = rw acts (view_grows s i _)
seat_acts_grow phase call s i x o acts = absurd acts

pub seat_step_grows : (s : State) (i : ℕ) (call : SeatCall) (o : Outcome) → SeatStep s i call o → Grows s o.state
seat_step_grows s i call o step = seat_acts_grow step.view.phase call s i step.view o step.acts

-- a slot is written, and its number isn't
pub cells_grow : (s : State) (x : Slot) → Invariant s → x.word.number ≡ (word s (next_place s)).number → Grows s (with_slot s (next_place s) x)
cells_grow s x h same = record {
  head = omega arith;
  closed = λ e. e;
  numbers = λ k. (let e = part_same (λ (z : Slot). z.word.number) s k x h same in omega arith);
  log = ([], sym (append-nil s.log));
}

-- the slot as finish leaves it
abbrev pub finished_slot : State → Slot
finished_slot s = record (slot s (next_place s)) { word = record (word s (next_place s)) { writing = false; number = length s.log + 1 } }

pub finish_grows : (s : State) → Invariant s → s.publisher.phase ≡ publishing.Filling → Grows s (finish s).state
finish_grows s h phase = record {
  head = omega arith;
  closed = λ e. e;
  numbers = λ k. elim (next_set s k (finished_slot s) h) [
    | inl e ↦
        let number : (word s (next_place s)).number ≡ length s.log - s.keep = rw phase at h.slots.numbers.next in
        let was = ap (λ n. (word s n).number) e.0 in
        let now = ap (λ (z : Slot). z.word.number) e.1 in omega arith
    | inr e ↦ let now = ap (λ (z : Slot). z.word.number) e.1 in omega arith
  ];
  log = ([], sym (append-nil s.log));
}

pub append_grows : (s : State) → Invariant s → s.publisher.phase ≡ publishing.Finished → Grows s (append s).state
append_grows s h phase = let size = h.slots.numbers.size in record {
  head = omega arith;
  closed = λ e. absurd (let unclosed = is_open s h phase s.publisher.closed refl in let same = h.slots.numbers.closed in cc);
  numbers = λ k. omega arith;
  log = (s.publisher.packet ∷ [], refl);
}

-- the slot with the writing bit
abbrev pub begun_slot : State → Slot
begun_slot s = record (slot s (next_place s)) { word = record (word s (next_place s)) { writing = true } }

pub publisher_acts_grow : (phase : PublisherPhase) (call : PublisherCall) (s : State) (o : Outcome) → s.publisher.phase ≡ phase → PublisherActs phase call s o
    → Invariant s → Grows s o.state
publisher_acts_grow publishing.Between (Publish p) s o phase acts h =
    let same : Grows s s = record { head = omega arith; closed = λ e. e; numbers = λ j. omega arith; log = ([], sym (append-nil s.log)) } in
    rw acts.1 (by_test (is_known s (word s (next_place s)))
    (λ e. rw e (let g = cells_grow s (begun_slot s) h refl in record { head = g.head; closed = g.closed; numbers = g.numbers; log = g.log }))
    (λ e. rw e (record { head = same.head; closed = same.closed; numbers = same.numbers; log = same.log })))
publisher_acts_grow publishing.Between Close s o phase acts h =
    let size = h.slots.numbers.size in
    rw acts.1 (record { head = omega arith; closed = λ e. refl; numbers = λ j. omega arith; log = ([], sym (append-nil s.log)) })
publisher_acts_grow publishing.Begun (Publish p) s o phase acts h =
    rw acts.1 (let g = cells_grow s (record (slot s (next_place s)) { len = length s.publisher.packet }) h refl in record { head = g.head; closed = g.closed; numbers = g.numbers; log = g.log })
publisher_acts_grow publishing.Filling (Publish p) s o phase acts h =
    rw acts.1 (by_test (nat_lt s.publisher.written (length s.publisher.packet))
    (λ e. rw e (let g = cells_grow s _ h refl in record { head = g.head; closed = g.closed; numbers = g.numbers; log = g.log }))
    (λ e. rw e (finish_grows s h phase)))
publisher_acts_grow publishing.Finished (Publish p) s o phase acts h = rw acts.1 (append_grows s h phase)
publisher_acts_grow phase call s o eq acts h = absurd acts

pub publisher_step_grows : (s : State) (call : PublisherCall) (o : Outcome) → PublisherStep s call o → Invariant s → Grows s o.state
publisher_step_grows s call o step h = publisher_acts_grow s.publisher.phase call s o refl step h
