-- Over each step what a seat has seen only grows, and the slot of a seat whose pin holds keeps its length and bytes.
use Rattle.std.proofs.Common.{◌≡◌, ◌≢◌, ℕ, ◌≤◌, true, Some, List, [], ◌++◌, length, take, drop, append-nil, refl, sym, ◌∙◌, ap, subst, inl, inr, arith, slice_get, slice_set, nat_lt}
use Rattle.std.proofs.lemmas.Bool.Decides.{eqb_tells}
use Rattle.std.proofs.lemmas.List.{take-append-drop, take-append-le, take_all}
use Rattle.std.proofs.lemmas.Option.{same_Some}
use Rattle.cursor.proofs.Counting.{read_place}
use Rattle.cursor.proofs.Attachments.{read_other}
use Rattle.ring_steps.specs.declared.calls.PublisherCall.{PublisherCall}
use Rattle.ring_steps.specs.declared.calls.PublisherCall.TheVariants.{Publish, Close}
use Rattle.ring_steps.specs.declared.views.PublisherPhase.{PublisherPhase}
use Rattle.ring_steps.specs.declared.views.PublisherPhase.TheVariants as publishing
use Rattle.ring_steps.specs.declared.views.Seat.{Seat}
use Rattle.ring_steps.specs.declared.words.Slot.{Slot}
use Rattle.ring_steps.specs.Ring.{State, cursor, place, slot, with_slot, word}
use Rattle.ring_steps.specs.RingSteps.{AllSeeOn, By, HeldStay, RingStep, SameCells, SeesOn, by_look, by_publisher, by_read, by_seat}
use Rattle.ring_steps.specs.Slots.{Grows, Invariant, IsHolding, Writes}
use Rattle.ring_steps.specs.Step.{Outcome, PublisherActs, is_known, loaded, next_place}
use Rattle.ring_steps.proofs.Alone.{ring_step_alone}
use Rattle.ring_steps.proofs.Begins.{next_other, part_same}
use Rattle.ring_steps.proofs.Frames.{Sees, publisher_frame, seat_frame}
use Rattle.ring_steps.proofs.Places.{by_test, place_within}
use Rattle.ring_steps.proofs.Stepping.{ring_step_grows}

-- the front of a list is that of a longer one
take_front : (n : ℕ) (xs more : List (List ℕ)) → n ≤ length xs → take n (xs ++ more) ≡ take n xs
take_front n xs more within = take-append-le n xs more within

-- a view that saw no more, in a log that grew
stays : (s t : State) (x y : Seat) → Grows s t → x.seen ≤ length s.log → y.seen ≡ x.seen → y.saw_closed ≡ x.saw_closed → SeesOn s x t y
stays s t x y grows within seen closed = record {
  seen = omega arith;
  log = ([], rw (seen, grows.log.1) (take_front x.seen s.log grows.log.0 within ∙ sym (append-nil (take x.seen s.log))));
  closed = λ e. (closed ∙ e, seen);
}

-- a view that loaded the head
loads : (s t : State) (x y : Seat) → Invariant s → t.log ≡ s.log
    → (x.seen ≤ length s.log) × (x.saw_closed ≡ true → (x.seen ≡ length s.log) × (s.publisher.closed ≡ true))
    → y.seen ≡ s.head.length → y.saw_closed ≡ s.head.closed → SeesOn s x t y
loads s t x y h same was seen closed =
    let size = h.slots.numbers.size in
    let within = was.0 in
    record {
      seen = omega arith;
      log = (drop x.seen s.log, rw (same, seen, size) (take_all (length s.log) s.log (omega arith) ∙ sym (take-append-drop x.seen s.log)));
      closed = λ e. (closed ∙ h.slots.numbers.closed ∙ (was.1 e).1, seen ∙ size ∙ sym (was.1 e).0);
    }

-- one seat's view changes
one_sees : (s t : State) (i : ℕ) (x y : Seat) → Invariant s → Grows s t → t.log ≡ s.log → t.seats ≡ slice_set s.seats i y → slice_get s.seats i ≡ Some x → Sees s x y → AllSeeOn s t
one_sees s t i x y h grows log seats at sees k z w there after = elim (eqb_tells k i) [
  | inl e ↦
      let first : x ≡ z = same_Some x z (sym at ∙ ap (slice_get s.seats) (sym e.1) ∙ there) in
      let last : y ≡ w = same_Some y w (sym (read_place s.seats i x y at) ∙ ap (slice_get (slice_set s.seats i y)) (sym e.1) ∙ ap (λ (xs : List Seat). slice_get xs k) (sym seats) ∙ after) in
      let was = h.slots.seen i x at in
      subst (λ (a : Seat). SeesOn s a t w) first (subst (λ (b : Seat). SeesOn s x t b) last (elim sees [
        | inl same ↦ stays s t x y grows was.0 same.0 same.1
        | inr now ↦ loads s t x y h log was now.0 now.1
      ]))
  | inr e ↦
      let same : z ≡ w = same_Some z w (sym there ∙ sym (read_other s.seats i k y (λ f. e.1 (sym f))) ∙ ap (λ (xs : List Seat). slice_get xs k) (sym seats) ∙ after) in
      let was = h.slots.seen k z there in
      stays s t z w grows was.0 (ap (λ (a : Seat). a.seen) (sym same)) (ap (λ (a : Seat). a.saw_closed) (sym same))
]

-- no seat's view changes
none_sees : (s t : State) → Invariant s → Grows s t → t.seats ≡ s.seats → AllSeeOn s t
none_sees s t h grows seats k z w there after =
    let same : z ≡ w = same_Some z w (sym there ∙ ap (λ (xs : List Seat). slice_get xs k) (sym seats) ∙ after) in
    stays s t z w grows (h.slots.seen k z there).0 (ap (λ (a : Seat). a.seen) (sym same)) (ap (λ (a : Seat). a.saw_closed) (sym same))

pub ring_step_sees : (s : State) (by : By) (o : Outcome) → RingStep s by o → Invariant s → AllSeeOn s o.state
ring_step_sees s (by_publisher call) o step h =
    none_sees s o.state h (ring_step_grows s (by_publisher call) o step h) (publisher_frame s.publisher.phase call s o step).seats
ring_step_sees s (by_seat i call) o step h =
    let frame = seat_frame step.view.phase call s i step.view o refl step.acts in
    one_sees s o.state i step.view frame.view h (ring_step_grows s (by_seat i call) o step h) frame.log frame.seats step.there frame.sees
ring_step_sees s (by_look i) o step h =
    let grows = ring_step_grows s (by_look i) o step h in
    let state = ap (λ (q : Outcome). q.state) step.acts in
    one_sees s o.state i step.view (loaded s step.view) h grows (ap (λ (t : State). t.log) state) (ap (λ (t : State). t.seats) state) step.there (inr (refl, refl))
ring_step_sees s (by_read i cell) o step h =
    none_sees s o.state h (ring_step_grows s (by_read i cell) o step h) (ap (λ (q : Outcome). q.state.seats) step.acts)

-- a slot that a seat holds isn't where the publisher writes
held_elsewhere : (s : State) (i : ℕ) (x : Seat) → Invariant s → slice_get s.seats i ≡ Some x → IsHolding x.phase → Writes s.publisher.phase → place s (cursor x) ≢ next_place s
held_elsewhere s i x h at holds writes same =
    let set = (h.slots.writing (next_place s) (place_within s.keep (length s.log))).1 (writes, refl) in
    let clear = (h.slots.held i x at holds).1 in
    let one = ap (λ n. (word s n).writing) same in
    absurd (cc)

-- nothing but a word changes
word_stays : (s : State) (x : Slot) (j : ℕ) → Invariant s → x.len ≡ (slot s (next_place s)).len → x.bytes ≡ (slot s (next_place s)).bytes → SameCells s (with_slot s (next_place s) x) j
word_stays s x j h len bytes = (part_same (λ (z : Slot). z.len) s j x h len, part_same (λ (z : Slot). z.bytes) s j x h bytes)

-- another slot changes
other_stays : (s : State) (x : Slot) (j : ℕ) → Invariant s → j ≢ next_place s → SameCells s (with_slot s (next_place s) x) j
other_stays s x j h ne = let same = next_other s j x h ne in (ap (λ (z : Slot). z.len) same, ap (λ (z : Slot). z.bytes) same)

publisher_holds : (phase : PublisherPhase) (call : PublisherCall) (s : State) (o : Outcome) → s.publisher.phase ≡ phase → PublisherActs phase call s o → Invariant s → HeldStay s o.state
publisher_holds publishing.Between (Publish p) s o phase acts h i x at holds =
    rw acts.1 (by_test (is_known s (word s (next_place s))) (λ e. rw e (word_stays s _ _ h refl refl)) (λ e. rw e (refl, refl)))
publisher_holds publishing.Between Close s o phase acts h i x at holds = rw acts.1 (refl, refl)
publisher_holds publishing.Begun (Publish p) s o phase acts h i x at holds = rw acts.1 (other_stays s _ _ h (held_elsewhere s i x h at holds (rw phase tt)))
publisher_holds publishing.Filling (Publish p) s o phase acts h i x at holds =
    rw acts.1 (by_test (nat_lt s.publisher.written (length s.publisher.packet))
    (λ e. rw e (other_stays s _ _ h (held_elsewhere s i x h at holds (rw phase tt))))
    (λ e. rw e (word_stays s _ _ h refl refl)))
publisher_holds publishing.Finished (Publish p) s o phase acts h i x at holds = rw acts.1 (refl, refl)
publisher_holds phase call s o is acts h i x at holds = absurd acts

pub ring_step_holds : (s : State) (by : By) (o : Outcome) → RingStep s by o → Invariant s → HeldStay s o.state
ring_step_holds s (by_publisher call) o step h i x at holds = publisher_holds s.publisher.phase call s o refl step h i x at holds
ring_step_holds s (by_seat k call) o step h i x at holds = (ring_step_alone s (by_seat k call) o step).cells (place s (cursor x))
ring_step_holds s (by_look k) o step h i x at holds = (ring_step_alone s (by_look k) o step).0.cells (place s (cursor x))
ring_step_holds s (by_read k cell) o step h i x at holds = rw step.acts (refl, refl)
