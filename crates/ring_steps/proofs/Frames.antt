-- What a step of the publisher or of a seat leaves, by how much it raises a count, and that its actor stays in its next call.
use Rattle.std.proofs.Common.{◌≡◌, ℕ, ◌+◌, ◌==◌, ◌≤◌, ◌⊎◌, inl, inr, true, Some, List, [], ◌∷◌, length, take, refl, sym, ◌∙◌, ap, arith, slice_get, slice_set, nat_lt}
use Rattle.std.proofs.lemmas.List.{length-append}
use Rattle.ring_steps.specs.declared.calls.PublisherCall.{PublisherCall}
use Rattle.ring_steps.specs.declared.calls.PublisherCall.TheVariants.{Publish, Close}
use Rattle.ring_steps.specs.declared.calls.SeatCall.{SeatCall}
use Rattle.ring_steps.specs.declared.calls.SeatCall.TheVariants.{Attach, Take, Detach}
use Rattle.ring_steps.specs.declared.views.PublisherPhase.{PublisherPhase}
use Rattle.ring_steps.specs.declared.views.PublisherPhase.TheVariants as publishing
use Rattle.ring_steps.specs.declared.views.Seat.{Seat}
use Rattle.ring_steps.specs.declared.views.SeatPhase.{SeatPhase}
use Rattle.ring_steps.specs.declared.views.SeatPhase.TheVariants as seating
use Rattle.ring_steps.specs.Agreeing.{IsTaking, PublisherAgrees, SeatAgrees}
use Rattle.ring_steps.specs.Ring.{State, word, place, floor, cursor}
use Rattle.ring_steps.specs.Runs.{answered}
use Rattle.ring_steps.specs.Scripts.{is_attached_after, is_closed_after}
use Rattle.ring_steps.specs.Step.{Outcome, PublisherActs, SeatActs, is_known, next_place, holds}
use Rattle.ring_steps.proofs.Checks.{attached_at, close_closes, publish_keeps}
use Rattle.ring_steps.proofs.Places.{by_test}

-- what a step of the publisher leaves, and raises by one at most
pub record PublisherFrame (s : State) (o : Outcome) : Type 0 where
  pub seats : o.state.seats ≡ s.seats
  pub keep : o.state.keep ≡ s.keep
  pub log : length o.state.log ≤ length s.log + 1
  pub failed : o.state.publisher.failed ≤ s.publisher.failed + 1

pub publisher_frame : (phase : PublisherPhase) (call : PublisherCall) (s : State) (o : Outcome) → PublisherActs phase call s o → PublisherFrame s o
publisher_frame publishing.Between (Publish p) s o acts =
    rw acts.1 (by_test (is_known s (word s (next_place s)))
    (λ e. rw e (record { seats = refl; keep = refl; log = omega arith; failed = omega arith }))
    (λ e. rw e (record { seats = refl; keep = refl; log = omega arith; failed = omega arith })))
publisher_frame publishing.Between Close s o acts = rw acts.1 (record { seats = refl; keep = refl; log = omega arith; failed = omega arith })
publisher_frame publishing.Begun (Publish p) s o acts = rw acts.1 (record { seats = refl; keep = refl; log = omega arith; failed = omega arith })
publisher_frame publishing.Filling (Publish p) s o acts =
    rw acts.1 (by_test (nat_lt s.publisher.written (length s.publisher.packet))
    (λ e. rw e (record { seats = refl; keep = refl; log = omega arith; failed = omega arith }))
    (λ e. rw e (record { seats = refl; keep = refl; log = omega arith; failed = omega arith })))
publisher_frame publishing.Finished (Publish p) s o acts =
    rw acts.1 (record { seats = refl; keep = refl; log = let one = length-append s.log (s.publisher.packet ∷ []) in omega arith; failed = omega arith })
publisher_frame phase call s o acts = absurd acts

-- a view saw what it saw, or what the head is now
abbrev pub Sees : State → Seat → Seat → Type 0
Sees s x y = ((y.seen ≡ x.seen) × (y.saw_closed ≡ x.saw_closed)) ⊎ ((y.seen ≡ s.head.length) × (y.saw_closed ≡ s.head.closed))

-- a step of a seat changes its view alone, and raises its loads and its misses by one at most
pub record SeatFrame (call : SeatCall) (s : State) (i : ℕ) (x : Seat) (o : Outcome) : Type 0 where
  pub view : Seat
  pub seats : o.state.seats ≡ slice_set s.seats i view
  pub keep : o.state.keep ≡ s.keep
  pub log : o.state.log ≡ s.log
  pub publisher : o.state.publisher ≡ s.publisher
  pub loads : view.loads ≤ x.loads + 1
  pub misses : view.misses ≤ x.misses + 1
  pub sees : Sees s x view
  pub agrees : (own : List SeatCall) (n : ℕ) → slice_get own n ≡ Some call → SeatAgrees x.phase own n → SeatAgrees view.phase own (answered n o.answer)

-- a take that goes on
going_on : (own : List SeatCall) (n : ℕ) → slice_get own n ≡ Some Take → is_attached_after (take n own) ≡ true → IsTaking own n
going_on own n at attached = record { attached = attached; next = at }

-- a take that ended leaves its seat attached
taken : (own : List SeatCall) (n : ℕ) → slice_get own n ≡ Some Take → is_attached_after (take n own) ≡ true → is_attached_after (take (n + 1) own) ≡ true
taken own n at attached = attached_at own n Take at ∙ attached

pub seat_frame : (phase : SeatPhase) (call : SeatCall) (s : State) (i : ℕ) (x : Seat) (o : Outcome) → x.phase ≡ phase → SeatActs phase call s i x o → SeatFrame call s i x o
seat_frame seating.Out (Attach back) s i x o phase acts =
    rw acts (record { view = _; seats = refl; keep = refl; log = refl; publisher = refl; loads = omega arith; misses = omega arith; sees = inr (refl, refl); agrees = λ own n at ag. attached_at own n (Attach back) at })
seat_frame seating.Between Detach s i x o phase acts =
    rw acts (record { view = _; seats = refl; keep = refl; log = refl; publisher = refl; loads = omega arith; misses = omega arith; sees = inr (refl, refl); agrees = λ own n at ag. attached_at own n Detach at })
seat_frame seating.Between Take s i x o phase acts =
    rw acts (by_test (s.head.length == cursor x)
    (λ e. rw e (record { view = _; seats = refl; keep = refl; log = refl; publisher = refl; loads = omega arith; misses = omega arith; sees = inr (refl, refl); agrees = λ own n at ag. (rw phase (taken own n at (rw phase at ag))) }))
    (λ e. rw e (by_test (nat_lt (cursor x) (floor s s.head.length))
    (λ f. rw f (record { view = _; seats = refl; keep = refl; log = refl; publisher = refl; loads = omega arith; misses = omega arith; sees = inr (refl, refl); agrees = λ own n at ag. taken own n at (rw phase at ag) }))
    (λ f. rw f (record { view = _; seats = refl; keep = refl; log = refl; publisher = refl; loads = omega arith; misses = omega arith; sees = inr (refl, refl); agrees = λ own n at ag. going_on own n at (rw phase at ag) })))))
seat_frame seating.Found Take s i x o phase acts =
    rw acts (by_test (holds (word s (place s (cursor x))) (cursor x))
    (λ e. rw e (record { view = _; seats = refl; keep = refl; log = refl; publisher = refl; loads = omega arith; misses = omega arith; sees = inl (refl, refl); agrees = λ own n at ag. (rw phase at ag) }))
    (λ e. rw e (record { view = _; seats = refl; keep = refl; log = refl; publisher = refl; loads = omega arith; misses = omega arith; sees = inl (refl, refl); agrees = λ own n at ag. (rw phase at ag) })))
seat_frame seating.Holding Take s i x o phase acts =
    rw acts (record { view = _; seats = refl; keep = refl; log = refl; publisher = refl; loads = omega arith; misses = omega arith; sees = inl (refl, refl); agrees = λ own n at ag. (rw phase at ag) })
seat_frame seating.Reading Take s i x o phase acts =
    rw acts (by_test (nat_lt (length x.read) x.length)
    (λ e. rw e (record { view = _; seats = refl; keep = refl; log = refl; publisher = refl; loads = omega arith; misses = omega arith; sees = inl (refl, refl); agrees = λ own n at ag. ag }))
    (λ e. rw e (record { view = _; seats = refl; keep = refl; log = refl; publisher = refl; loads = omega arith; misses = omega arith; sees = inl (refl, refl); agrees = λ own n at ag. taken own n at (rw phase at ag).attached })))
seat_frame seating.Failed Take s i x o phase acts =
    rw acts (record { view = _; seats = refl; keep = refl; log = refl; publisher = refl; loads = omega arith; misses = omega arith; sees = inl (refl, refl); agrees = λ own n at ag. (rw phase at ag) })
seat_frame seating.Missed Take s i x o phase acts =
    rw acts (record { view = _; seats = refl; keep = refl; log = refl; publisher = refl; loads = omega arith; misses = omega arith; sees = inr (refl, refl); agrees = λ own n at ag. taken own n at (rw phase at ag).attached })
seat_frame phase call s i x o eq acts = absurd acts

-- the publisher's phase is again one within its next call
pub publisher_agrees : (phase : PublisherPhase) (call : PublisherCall) (s : State) (o : Outcome) (calls : List PublisherCall) (n : ℕ) → s.publisher.phase ≡ phase
    → PublisherActs phase call s o → slice_get calls n ≡ Some call → s.publisher.closed ≡ is_closed_after (take n calls)
    → (PublisherAgrees o.state.publisher.phase calls (answered n o.answer) o.state.publisher.packet)
    × (o.state.publisher.closed ≡ is_closed_after (take (answered n o.answer) calls))
publisher_agrees publishing.Between (Publish p) s o calls n phase acts at closed =
    rw acts.1 (by_test (is_known s (word s (next_place s)))
    (λ e. rw e (at, closed))
    (λ e. rw e (rw phase tt, closed ∙ sym (publish_keeps calls n p at))))
publisher_agrees publishing.Between Close s o calls n phase acts at closed = rw acts.1 (rw phase tt, sym (close_closes calls n at))
publisher_agrees publishing.Begun (Publish p) s o calls n phase acts at closed = rw acts.1 (at ∙ ap (λ (q : List ℕ). Some (Publish q)) (sym acts.0), closed)
publisher_agrees publishing.Filling (Publish p) s o calls n phase acts at closed =
    rw acts.1 (by_test (nat_lt s.publisher.written (length s.publisher.packet))
    (λ e. rw e (rw phase (at ∙ ap (λ (q : List ℕ). Some (Publish q)) (sym acts.0)), closed))
    (λ e. rw e (at ∙ ap (λ (q : List ℕ). Some (Publish q)) (sym acts.0), closed)))
publisher_agrees publishing.Finished (Publish p) s o calls n phase acts at closed = rw acts.1 (tt, closed ∙ sym (publish_keeps calls n p at))
publisher_agrees phase call s o calls n eq acts at closed = absurd acts
