-- How many atomic steps a call that was begun has made, by its actor's phase; so a call makes no more of them than it may.
use Rattle.std.proofs.Common.{subst, ◌≡◌, ℕ, ◌+◌, ◌==◌, ◌&&◌, ◌≤◌, true, Bool, Some, None, List, [], ◌∷◌, ◌++◌, length, refl, ◌∙◌, ap, arith, inl, inr, get_or, get_or-set_other, slice_get, slice_set, nat_lt}
use Rattle.std.specs.Prelude.{if◌then◌else◌}
use Rattle.std.proofs.lemmas.Bool.Decides.{eqb_tells}
use Rattle.std.proofs.lemmas.Option.{get_or_from_slice_get}
use Rattle.cursor.proofs.Counting.{read_place}
use Rattle.ring_steps.specs.declared.calls.Actor.{Actor}
use Rattle.ring_steps.specs.declared.calls.Actor.TheVariants.{P, Seat}
use Rattle.ring_steps.specs.declared.calls.PublisherCall.{PublisherCall}
use Rattle.ring_steps.specs.declared.calls.PublisherCall.TheVariants.{Publish, Close}
use Rattle.ring_steps.specs.declared.calls.SeatCall.{SeatCall}
use Rattle.ring_steps.specs.declared.calls.SeatCall.TheVariants.{Attach, Take, Detach}
use Rattle.ring_steps.specs.declared.views.Publisher.{Publisher}
use Rattle.ring_steps.specs.declared.views.PublisherPhase.{PublisherPhase}
use Rattle.ring_steps.specs.declared.views.PublisherPhase.TheVariants as publishing
use Rattle.ring_steps.specs.declared.views.Seat as views
use Rattle.ring_steps.specs.declared.views.SeatPhase.{SeatPhase}
use Rattle.ring_steps.specs.declared.views.SeatPhase.TheVariants as seating
use Rattle.ring_steps.specs.Acting.{is_actor}
use Rattle.ring_steps.specs.Answers.{publisher_call, seat_call}
use Rattle.ring_steps.specs.Atomic.{IsUnanswered, atomic_steps, is_atomic, most_atomic}
use Rattle.ring_steps.specs.Ring.{State, cursor, floor, new_seat, place, seat_at, word}
use Rattle.ring_steps.specs.Runs.{At, Calls, MoveBy, Ran, Turn, outcome_of}
use Rattle.ring_steps.specs.Traces.{StepsAreFew}
use Rattle.ring_steps.specs.Step.{Outcome, PublisherActs, SeatActs, holds, is_known, next_place}
use Rattle.ring_steps.proofs.Frames.{publisher_frame, seat_frame}
use Rattle.ring_steps.proofs.Places.{by_test}

abbrev pub one_if : Bool → ℕ
one_if b = if b then 1 else 0

-- the atomic steps of a call that was begun, by the phase
abbrev pub made_by_seat : SeatPhase → ℕ
made_by_seat seating.Out = 0
made_by_seat seating.Between = 0
made_by_seat seating.Found = 1
made_by_seat seating.Holding = 2
made_by_seat seating.Reading = 2
made_by_seat seating.Failed = 2
made_by_seat seating.Missed = 3

abbrev pub made_by_publisher : PublisherPhase → ℕ
made_by_publisher publishing.Between = 0
made_by_publisher publishing.Begun = 1
made_by_publisher publishing.Filling = 1
made_by_publisher publishing.Finished = 2

abbrev pub made_so_far : Actor → State → ℕ
made_so_far P s = made_by_publisher s.publisher.phase
made_so_far (Seat i) s = made_by_seat (seat_at s i).phase

-- a step of the publisher within its call, and one that doesn't end it
publisher_most : (phase : PublisherPhase) (call : PublisherCall) (s : State) (o : Outcome) → PublisherActs phase call s o → made_by_publisher phase + one_if (is_atomic o.saw) ≤ most_atomic (publisher_call call)
publisher_most publishing.Between (Publish p) s o acts = rw acts.1 (by_test (is_known s (word s (next_place s))) (λ e. rw e (omega arith)) (λ e. rw e (omega arith)))
publisher_most publishing.Between Close s o acts = rw acts.1 (omega arith)
publisher_most publishing.Begun (Publish p) s o acts = rw acts.1 (omega arith)
publisher_most publishing.Filling (Publish p) s o acts = rw acts.1 (by_test (nat_lt s.publisher.written (length s.publisher.packet)) (λ e. rw e (omega arith)) (λ e. rw e (omega arith)))
publisher_most publishing.Finished (Publish p) s o acts = rw acts.1 (omega arith)
publisher_most phase call s o acts = absurd acts

publisher_on : (phase : PublisherPhase) (call : PublisherCall) (s : State) (o : Outcome) → s.publisher.phase ≡ phase → PublisherActs phase call s o → o.answer ≡ None
    → made_by_publisher o.state.publisher.phase ≡ made_by_publisher phase + one_if (is_atomic o.saw)
publisher_on publishing.Between (Publish p) s o phase acts =
    rw acts.1 (by_test (is_known s (word s (next_place s))) (λ e. rw e (λ none. refl)) (λ e. rw e (λ none. absurd (cc))))
publisher_on publishing.Between Close s o phase acts = rw acts.1 (λ none. absurd (cc))
publisher_on publishing.Begun (Publish p) s o phase acts = rw acts.1 (λ none. refl)
publisher_on publishing.Filling (Publish p) s o phase acts =
    rw acts.1 (by_test (nat_lt s.publisher.written (length s.publisher.packet)) (λ e. rw e (λ none. rw phase refl)) (λ e. rw e (λ none. refl)))
publisher_on publishing.Finished (Publish p) s o phase acts = rw acts.1 (λ none. absurd (cc))
publisher_on phase call s o eq acts = absurd acts

-- a step of a seat within its call, and one that doesn't end it
seat_most : (phase : SeatPhase) (call : SeatCall) (s : State) (i : ℕ) (x : views.Seat) (o : Outcome) → SeatActs phase call s i x o → made_by_seat phase + one_if (is_atomic o.saw) ≤ most_atomic (seat_call i call)
seat_most seating.Out (Attach n) s i x o acts = rw acts (omega arith)
seat_most seating.Between Detach s i x o acts = rw acts (omega arith)
seat_most seating.Between Take s i x o acts =
    rw acts (by_test (s.head.length == cursor x) (λ e. rw e (omega arith)) (λ e. rw e (by_test (nat_lt (cursor x) (floor s s.head.length)) (λ l. rw l (omega arith)) (λ l. rw l (omega arith)))))
seat_most seating.Found Take s i x o acts = rw acts (omega arith)
seat_most seating.Holding Take s i x o acts = rw acts (omega arith)
seat_most seating.Reading Take s i x o acts = rw acts (by_test (nat_lt (length x.read) x.length) (λ e. rw e (omega arith)) (λ e. rw e (omega arith)))
seat_most seating.Failed Take s i x o acts = rw acts (omega arith)
seat_most seating.Missed Take s i x o acts = rw acts (omega arith)
seat_most phase call s i x o acts = absurd acts

pub record SeatWent (s : State) (i : ℕ) (phase : SeatPhase) (o : Outcome) : Type 0 where
  pub view : views.Seat
  pub seats : o.state.seats ≡ slice_set s.seats i view
  pub made : made_by_seat view.phase ≡ made_by_seat phase + one_if (is_atomic o.saw)

seat_on : (phase : SeatPhase) (call : SeatCall) (s : State) (i : ℕ) (x : views.Seat) (o : Outcome) → x.phase ≡ phase → SeatActs phase call s i x o → o.answer ≡ None → SeatWent s i phase o
seat_on seating.Out (Attach n) s i x o phase acts = rw acts (λ none. absurd (cc))
seat_on seating.Between Detach s i x o phase acts = rw acts (λ none. absurd (cc))
seat_on seating.Between Take s i x o phase acts =
    rw acts (by_test (s.head.length == cursor x) (λ e. rw e (λ none. absurd (cc)))
    (λ e. rw e (by_test (nat_lt (cursor x) (floor s s.head.length)) (λ l. rw l (λ none. absurd (cc))) (λ l. rw l (λ none. record { view = _; seats = refl; made = refl })))))
seat_on seating.Found Take s i x o phase acts =
    rw acts (λ none. by_test (holds (word s (place s (cursor x))) (cursor x)) (λ e. rw e (record { view = _; seats = refl; made = refl })) (λ e. rw e (record { view = _; seats = refl; made = refl })))
seat_on seating.Holding Take s i x o phase acts = rw acts (λ none. record { view = _; seats = refl; made = refl })
seat_on seating.Reading Take s i x o phase acts =
    rw acts (by_test (nat_lt (length x.read) x.length) (λ e. rw e (λ none. record { view = _; seats = refl; made = rw phase refl })) (λ e. rw e (λ none. absurd (cc))))
seat_on seating.Failed Take s i x o phase acts = rw acts (λ none. record { view = _; seats = refl; made = refl })
seat_on seating.Missed Take s i x o phase acts = rw acts (λ none. absurd (cc))
seat_on phase call s i x o eq acts = absurd acts

-- one turn that doesn't answer the actor
abbrev pub MadeMore : Actor → State → Turn → State → Type 0
MadeMore actor s t u = made_so_far actor u ≡ made_so_far actor s + one_if (is_actor actor t.actor && is_atomic t.saw)

turn_on : (actor mover : Actor) (script : Calls) (old : At) (t : Turn) (new : At) → t.actor ≡ mover → MoveBy mover script old t new → (is_actor actor t.actor ≡ true → t.answer ≡ None)
    → MadeMore actor old.ring t new.ring
turn_on P P script old t new by move none =
    let quiet = none (rw by refl) in
    rw by (publisher_on old.ring.publisher.phase move.call old.ring (outcome_of new.ring t) refl move.step quiet)
turn_on P (Seat j) script old t new by move none =
    let frame = seat_frame move.step.view.phase move.call old.ring j move.step.view (outcome_of new.ring t) refl move.step.acts in
    let same = ap (λ (p : Publisher). made_by_publisher p.phase) frame.publisher in
    rw by (omega arith)
turn_on (Seat i) P script old t new by move none =
    let frame = publisher_frame old.ring.publisher.phase move.call old.ring (outcome_of new.ring t) move.step in
    let same = ap (λ (xs : List views.Seat). made_by_seat (get_or xs i new_seat).phase) frame.seats in
    rw by (omega arith)
turn_on (Seat i) (Seat j) script old t new by move none =
    elim (eqb_tells i j) [
      | inl e ↦
          let x = move.step.view in
          let quiet = none (rw (by, e.0) refl) in
          let went = seat_on x.phase move.call old.ring j x (outcome_of new.ring t) refl move.step.acts quiet in
          let before : made_so_far (Seat i) old.ring ≡ made_by_seat x.phase =
          ap (λ k. made_by_seat (get_or old.ring.seats k new_seat).phase) e.1 ∙ ap (λ (y : views.Seat). made_by_seat y.phase) (get_or_from_slice_get old.ring.seats j x new_seat move.step.there) in
          let there : slice_get new.ring.seats j ≡ Some went.view = ap (λ (xs : List views.Seat). slice_get xs j) went.seats ∙ read_place old.ring.seats j x went.view move.step.there in
          let after : made_so_far (Seat i) new.ring ≡ made_by_seat went.view.phase =
          ap (λ k. made_by_seat (get_or new.ring.seats k new_seat).phase) e.1 ∙ ap (λ (y : views.Seat). made_by_seat y.phase) (get_or_from_slice_get new.ring.seats j went.view new_seat there) in
          let made = went.made in
          rw (by, e.0) (omega arith)
      | inr e ↦
          let frame = seat_frame move.step.view.phase move.call old.ring j move.step.view (outcome_of new.ring t) refl move.step.acts in
          let same = ap (λ (xs : List views.Seat). made_by_seat (get_or xs i new_seat).phase) frame.seats ∙ ap (λ (y : views.Seat). made_by_seat y.phase) (get_or-set_other old.ring.seats j i frame.view new_seat e.1) in
          rw (by, e.0) (omega arith)
    ]

run_on : (actor : Actor) (script : Calls) (old : At) (turns : List Turn) (new : At) → Ran script old turns new → IsUnanswered actor turns
    → made_so_far actor new.ring ≡ made_so_far actor old.ring + atomic_steps actor turns
run_on actor script old [] new ran none = let same = ap (λ (a : At). made_so_far actor a.ring) ran in omega arith
run_on actor script old (t ∷ ts) new ran none =
    let first = turn_on actor t.actor script old t ran.0 refl ran.1 none.0 in
    let rest = run_on actor script ran.0 ts new ran.2 none.1 in
    omega arith

turn_most : (actor : Actor) (script : Calls) (old : At) (t : Turn) (new : At) → t.actor ≡ actor → MoveBy actor script old t new → made_so_far actor old.ring + one_if (is_atomic t.saw) ≤ most_atomic t.call
turn_most P script old t new by move = rw move.named (publisher_most old.ring.publisher.phase move.call old.ring (outcome_of new.ring t) move.step)
turn_most (Seat i) script old t new by move =
    let x = move.step.view in
    let most = seat_most x.phase move.call old.ring i x (outcome_of new.ring t) move.step.acts in
    let before : made_so_far (Seat i) old.ring ≡ made_by_seat x.phase = ap (λ (y : views.Seat). made_by_seat y.phase) (get_or_from_slice_get old.ring.seats i x new_seat move.step.there) in
    rw move.named (omega arith)

pub ran_split : (script : Calls) (old : At) (xs ys : List Turn) (new : At) → Ran script old (xs ++ ys) new → (mid : At) × Ran script old xs mid × Ran script mid ys new
ran_split script old [] ys new ran = (old, refl, ran)
ran_split script old (x ∷ xs) ys new ran = let rest = ran_split script ran.0 xs ys new ran.2 in (rest.0, (ran.0, ran.1, rest.1), rest.2)

atomic-append : (actor : Actor) (xs ys : List Turn) → atomic_steps actor (xs ++ ys) ≡ atomic_steps actor xs + atomic_steps actor ys
atomic-append actor [] ys = omega arith
atomic-append actor (x ∷ xs) ys = let rest = atomic-append actor xs ys in omega arith

-- a call makes no more atomic steps than it may
pub steps_most : (script : Calls) (old : At) (before during after : List Turn) (t : Turn) (new : At) → Ran script old (before ++ during ++ t ∷ after) new
    → IsUnanswered t.actor during → is_actor t.actor t.actor ≡ true → atomic_steps t.actor (during ++ t ∷ []) ≤ most_atomic t.call
steps_most script old before during after t new ran none self =
    let outer = ran_split script old (before ++ during) (t ∷ after) new ran in
    let inner = ran_split script old before during outer.0 outer.1 in
    let made = run_on t.actor script inner.0 during outer.0 inner.2 none in
    let most = turn_most t.actor script outer.0 t outer.2.0 refl outer.2.1 in
    let sum = atomic-append t.actor during (t ∷ []) in
    let last : atomic_steps t.actor (t ∷ []) ≡ one_if (is_atomic t.saw) = rw self (omega arith) in
    omega arith

pub self_actor : (actor : Actor) → is_actor actor actor ≡ true
self_actor P = refl
self_actor (Seat i) = elim (eqb_tells i i) [ inl e ↦ e.0 | inr e ↦ absurd (e.1 refl) ]

pub steps_few : (script : Calls) (old : At) (turns : List Turn) (new : At) → Ran script old turns new → StepsAreFew turns
steps_few script old turns new ran before during after t split none =
    steps_most script old before during after t new (subst (λ (ts : List Turn). Ran script old ts new) split ran) none (self_actor t.actor)
