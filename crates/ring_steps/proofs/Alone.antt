-- Each step changes the view of its own actor, at most one slot, and the head only by a store of it.
use Rattle.std.proofs.Common.{◌≡◌, ◌≢◌, ℕ, ◌==◌, Some, length, refl, sym, ◌∙◌, ap, slice_get, nat_lt, get_or-set_other}
use Rattle.std.proofs.lemmas.Option.{get_or_from_slice_get}
use Rattle.cursor.proofs.Attachments.{read_other}
use Rattle.ring_steps.specs.declared.calls.PublisherCall.{PublisherCall}
use Rattle.ring_steps.specs.declared.calls.PublisherCall.TheVariants.{Publish, Close}
use Rattle.ring_steps.specs.declared.calls.SeatCall.{SeatCall}
use Rattle.ring_steps.specs.declared.calls.SeatCall.TheVariants.{Attach, Take, Detach}
use Rattle.ring_steps.specs.declared.views.PublisherPhase.{PublisherPhase}
use Rattle.ring_steps.specs.declared.views.PublisherPhase.TheVariants as publishing
use Rattle.ring_steps.specs.declared.views.Seat.{Seat}
use Rattle.ring_steps.specs.declared.views.SeatPhase.{SeatPhase}
use Rattle.ring_steps.specs.declared.views.SeatPhase.TheVariants as seating
use Rattle.ring_steps.specs.declared.words.Slot.{Slot}
use Rattle.ring_steps.specs.Ring.{State, cursor, floor, fresh_slot, new_seat, place, seat_at, slot, with_seat, with_slot, word}
use Rattle.ring_steps.specs.RingSteps.{By, ChangesAlone, PublisherAlone, RingStep, SeatAlone, by_look, by_publisher, by_read, by_seat}
use Rattle.ring_steps.specs.Step.{Outcome, PublisherActs, SeatActs, is_known, loaded, next_place, with_pins}
use Rattle.ring_steps.proofs.Places.{by_test, pins_alone}

-- a view changes
view_alone : (s : State) (i : ℕ) (y : Seat) → SeatAlone s i (with_seat s i y)
view_alone s i y = record {
  keep = refl;
  head = refl;
  log = refl;
  publisher = refl;
  seats = λ k ne. read_other s.seats i k y (λ e. ne (sym e));
  slots = λ j ne. refl;
  cells = λ j. (refl, refl);
}

-- a view changes, and the pins of the slot at the seat's cursor
pin_alone : (s : State) (i : ℕ) (x y : Seat) (n : ℕ) → slice_get s.seats i ≡ Some x
    → SeatAlone s i (with_seat (with_slot s (place s (cursor x)) (with_pins (slot s (place s (cursor x))) n)) i y)
pin_alone s i x y n at =
    let j = place s (cursor x) in
    let own : place s (cursor (seat_at s i)) ≡ j = ap (λ (z : Seat). place s (cursor z)) (get_or_from_slice_get s.seats i x new_seat at) in
    record {
      keep = refl;
      head = refl;
      log = refl;
      publisher = refl;
      seats = λ k ne. read_other s.seats i k y (λ e. ne (sym e));
      slots = λ k ne. get_or-set_other s.slots j k (with_pins (slot s j) n) fresh_slot (λ e. ne (e ∙ sym own));
      cells = λ k. let same = pins_alone s.slots j n k in (same.2, same.3);
    }

seat_alone : (phase : SeatPhase) (call : SeatCall) (s : State) (i : ℕ) (x : Seat) (o : Outcome) → SeatActs phase call s i x o → slice_get s.seats i ≡ Some x → SeatAlone s i o.state
seat_alone seating.Out (Attach n) s i x o acts at = rw acts (view_alone s i _)
seat_alone seating.Between Detach s i x o acts at = rw acts (view_alone s i _)
seat_alone seating.Between Take s i x o acts at =
    rw acts (by_test (s.head.length == cursor x) (λ e. rw e (view_alone s i _))
    (λ e. rw e (by_test (nat_lt (cursor x) (floor s s.head.length)) (λ f. rw f (view_alone s i _)) (λ f. rw f (view_alone s i _)))))
seat_alone seating.Found Take s i x o acts at = rw acts (pin_alone s i x _ _ at)
seat_alone seating.Holding Take s i x o acts at = rw acts (view_alone s i _)
seat_alone seating.Reading Take s i x o acts at =
    rw acts (by_test (nat_lt (length x.read) x.length) (λ e. rw e (view_alone s i _)) (λ e. rw e (pin_alone s i x _ _ at)))
seat_alone seating.Failed Take s i x o acts at = rw acts (pin_alone s i x _ _ at)
seat_alone seating.Missed Take s i x o acts at = rw acts (view_alone s i _)
seat_alone phase call s i x o acts at = absurd acts

-- the slot where the next packet goes changes
next_alone : (s : State) (x : Slot) (j : ℕ) → j ≢ next_place s → slot (with_slot s (next_place s) x) j ≡ slot s j
next_alone s x j ne = get_or-set_other s.slots (next_place s) j x fresh_slot ne

publisher_alone : (phase : PublisherPhase) (call : PublisherCall) (s : State) (o : Outcome) → PublisherActs phase call s o → PublisherAlone s o
publisher_alone publishing.Between (Publish p) s o acts =
    rw acts.1 (by_test (is_known s (word s (next_place s)))
    (λ e. rw e (record { keep = refl; seats = refl; slots = λ j ne. next_alone s _ j ne; head = λ t. (refl, refl) }))
    (λ e. rw e (record { keep = refl; seats = refl; slots = λ j ne. refl; head = λ t. (refl, refl) })))
publisher_alone publishing.Between Close s o acts = rw acts.1 (record { keep = refl; seats = refl; slots = λ j ne. refl; head = λ t. absurd (cc) })
publisher_alone publishing.Begun (Publish p) s o acts = rw acts.1 (record { keep = refl; seats = refl; slots = λ j ne. next_alone s _ j ne; head = λ t. (refl, refl) })
publisher_alone publishing.Filling (Publish p) s o acts =
    rw acts.1 (by_test (nat_lt s.publisher.written (length s.publisher.packet))
    (λ e. rw e (record { keep = refl; seats = refl; slots = λ j ne. next_alone s _ j ne; head = λ t. (refl, refl) }))
    (λ e. rw e (record { keep = refl; seats = refl; slots = λ j ne. next_alone s _ j ne; head = λ t. (refl, refl) })))
publisher_alone publishing.Finished (Publish p) s o acts = rw acts.1 (record { keep = refl; seats = refl; slots = λ j ne. refl; head = λ t. absurd (cc) })
publisher_alone phase call s o acts = absurd acts

pub ring_step_alone : (s : State) (by : By) (o : Outcome) → RingStep s by o → ChangesAlone by s o
ring_step_alone s (by_publisher call) o step = publisher_alone s.publisher.phase call s o step
ring_step_alone s (by_seat i call) o step = seat_alone step.view.phase call s i step.view o step.acts step.there
ring_step_alone s (by_look i) o step = rw step.acts (view_alone s i (loaded s step.view), λ j. refl)
ring_step_alone s (by_read i cell) o step = ap (λ (q : Outcome). q.state) step.acts
