-- The loads of the head keep the invariant: those of an attachment, of a detachment, and the first and the second of a take.
use Rattle.std.proofs.Common.{◌≡◌, ◌≢◌, ℕ, ◌+◌, ◌-◌, ◌≤◌, true, Some, length, refl, sym, ◌∙◌, inl, inr, arith, slice_get}
use Rattle.std.proofs.lemmas.Bool.Decides.{eqb_tells}
use Rattle.ring_steps.specs.declared.views.Seat.{Seat}
use Rattle.ring_steps.specs.declared.views.SeatPhase.TheVariants as seating
use Rattle.ring_steps.specs.Ring.{State, place, floor, cursor, with_seat}
use Rattle.ring_steps.specs.Step.{attach, detach, lose, end_take, find_packet, first_load, second_load}
use Rattle.ring_steps.specs.Slots.{Invariant, HasNumber, IsHolding, SeatKnows, pin_of}
use Rattle.ring_steps.proofs.Places.{lt_tells}
use Rattle.ring_steps.proofs.Seats.{pins_set, each_set}

-- what the invariant says of one seat's view
pub record SeatOk (s : State) (x : Seat) : Type 0 where
  pub held : IsHolding x.phase → HasNumber s (place s (cursor x)) (cursor x)
  pub seen : (x.seen ≤ length s.log) × (x.saw_closed ≡ true → (x.seen ≡ length s.log) × (s.publisher.closed ≡ true))
  pub cursors : cursor x ≤ x.seen
  pub knows : SeatKnows x.phase s.keep s.log x

-- one seat's view changes, and its pin doesn't
pub view_keeps : (s : State) (i : ℕ) (x y : Seat) → Invariant s → slice_get s.seats i ≡ Some x
    → ((j : ℕ) → pin_of y.phase (place s (cursor y)) j ≡ pin_of x.phase (place s (cursor x)) j) → SeatOk s y → Invariant (with_seat s i y)
view_keeps s i x y h at same ok = record {
  slots = record {
    pins = λ j within. let one = pins_set s.keep s.seats i x y j at in let pin = same j in let was = h.slots.pins j within in omega arith;
    writing = h.slots.writing;
    numbers = record {
      size = h.slots.numbers.size;
      closed = h.slots.numbers.closed;
      kept = h.slots.numbers.kept;
      next = h.slots.numbers.next;
      fresh = h.slots.numbers.fresh;
    };
    packets = h.slots.packets;
    held = each_set (λ (z : Seat). IsHolding z.phase → HasNumber s (place s (cursor z)) (cursor z)) s.seats i y h.slots.held ok.held;
    overtaken = h.slots.overtaken;
    seen = each_set (λ (z : Seat). (z.seen ≤ length s.log) × (z.saw_closed ≡ true → (z.seen ≡ length s.log) × (s.publisher.closed ≡ true))) s.seats i y h.slots.seen ok.seen;
  };
  phases = record {
    keeps = h.phases.keeps;
    width = h.phases.width;
    ended = h.phases.ended;
    did = h.phases.did;
    cursors = each_set (λ (z : Seat). cursor z ≤ z.seen) s.seats i y h.phases.cursors ok.cursors;
    knows = each_set (λ (z : Seat). SeatKnows z.phase s.keep s.log z) s.seats i y h.phases.knows ok.knows;
  };
}

-- what one load sees
pub sees_now : (s : State) → Invariant s
    → (s.head.length ≤ length s.log) × (s.head.closed ≡ true → (s.head.length ≡ length s.log) × (s.publisher.closed ≡ true))
sees_now s h = let size = h.slots.numbers.size in (omega arith, λ closed. (size, sym h.slots.numbers.closed ∙ closed))

pub attach_keeps : (s : State) (i : ℕ) (x : Seat) (back : ℕ) → Invariant s → slice_get s.seats i ≡ Some x → x.phase ≡ seating.Out → Invariant (attach s i x back).state
attach_keeps s i x back h at phase =
    view_keeps s i x _ h at (λ j. rw phase refl) (record { held = λ e. absurd e; seen = sees_now s h; cursors = omega arith; knows = tt })

pub detach_keeps : (s : State) (i : ℕ) (x : Seat) → Invariant s → slice_get s.seats i ≡ Some x → x.phase ≡ seating.Between → Invariant (detach s i x).state
detach_keeps s i x h at phase =
    let was = h.slots.seen i x at in let within = h.phases.cursors i x at in let size = h.slots.numbers.size in
    view_keeps s i x _ h at (λ j. rw phase refl) (record { held = λ e. absurd e; seen = sees_now s h; cursors = omega arith; knows = tt })

pub end_keeps : (s : State) (i : ℕ) (x : Seat) → Invariant s → slice_get s.seats i ≡ Some x → x.phase ≡ seating.Between → Invariant (end_take s i x).state
end_keeps s i x h at phase =
    let was = h.slots.seen i x at in let within = h.phases.cursors i x at in let size = h.slots.numbers.size in
    view_keeps s i x _ h at (λ j. refl) (record { held = h.slots.held i x at; seen = sees_now s h; cursors = omega arith; knows = rw phase tt })

pub find_keeps : (s : State) (i : ℕ) (x : Seat) → Invariant s → slice_get s.seats i ≡ Some x → x.phase ≡ seating.Between → s.head.length ≢ cursor x
    → floor s s.head.length ≤ cursor x → Invariant (find_packet s i x).state
find_keeps s i x h at phase ne kept =
    let was = h.slots.seen i x at in let within = h.phases.cursors i x at in let size = h.slots.numbers.size in
    view_keeps s i x _ h at (λ j. rw phase refl) (record { held = λ e. absurd e; seen = sees_now s h; cursors = omega arith; knows = (omega arith, kept) })

-- a loss leads to a number of the log
pub lose_keeps : (s : State) (i : ℕ) (x : Seat) (k : ℕ) → Invariant s → slice_get s.seats i ≡ Some x → ((j : ℕ) → 0 ≡ pin_of x.phase (place s (cursor x)) j)
    → cursor x + k ≤ length s.log → Invariant (lose s i x k).state
lose_keeps s i x k h at free within =
    let size = h.slots.numbers.size in
    view_keeps s i x _ h at free (record { held = λ e. absurd e; seen = sees_now s h; cursors = omega arith; knows = tt })

pub first_load_keeps : (s : State) (i : ℕ) (x : Seat) → Invariant s → slice_get s.seats i ≡ Some x → x.phase ≡ seating.Between → Invariant (first_load s i x).state
first_load_keeps s i x h at phase =
    elim (eqb_tells s.head.length (cursor x)) [
      | inl e ↦ rw e.0 (end_keeps s i x h at phase)
      | inr e ↦ rw e.0 (elim (lt_tells (cursor x) (floor s s.head.length)) [
        | inl l ↦ rw l.0 (let size = h.slots.numbers.size in let lt = l.1 in
            lose_keeps s i x (floor s s.head.length - cursor x) h at (λ j. rw phase refl) (omega arith))
        | inr l ↦ rw l.0 (find_keeps s i x h at phase e.1 l.1)
      ])
    ]

pub second_load_keeps : (s : State) (i : ℕ) (x : Seat) → Invariant s → slice_get s.seats i ≡ Some x → x.phase ≡ seating.Missed → Invariant (second_load s i x).state
second_load_keeps s i x h at phase =
    let size = h.slots.numbers.size in
    let knows = rw phase at (h.phases.knows i x at) in
    let gone = knows.1 in
    lose_keeps s i x (floor s s.head.length - cursor x) h at (λ j. rw phase refl) (omega arith)
