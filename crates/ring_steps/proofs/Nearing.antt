-- An actor's step that doesn't answer its call brings the answer nearer.
use Rattle.std.proofs.Common.{◌≡◌, ℕ, ◌+◌, ◌-◌, ◌%◌, ◌==◌, ◌≤◌, false, Option, Some, List, [], ◌∷◌, length, refl, sym, ◌∙◌, ap, subst, arith, inl, inr, slice_get, slice_set, nat_lt, is_some}
use Rattle.std.specs.Prelude.{slice_index_or}
use Rattle.std.proofs.lemmas.List.{length-append}
use Rattle.std.proofs.lemmas.Option.{get_or_from_slice_get}
use Rattle.cursor.proofs.Counting.{read_place}
use Rattle.ring_steps.specs.declared.calls.Actor.{Actor}
use Rattle.ring_steps.specs.declared.calls.Actor.TheVariants.{P, Seat}
use Rattle.ring_steps.specs.declared.calls.PublisherCall.{PublisherCall}
use Rattle.ring_steps.specs.declared.calls.PublisherCall.TheVariants.{Publish, Close}
use Rattle.ring_steps.specs.declared.calls.SeatCall.{SeatCall}
use Rattle.ring_steps.specs.declared.calls.SeatCall.TheVariants.{Attach, Take, Detach}
use Rattle.ring_steps.specs.declared.views.PublisherPhase.{PublisherPhase}
use Rattle.ring_steps.specs.declared.views.PublisherPhase.TheVariants as publishing
use Rattle.ring_steps.specs.declared.views.Seat as views
use Rattle.ring_steps.specs.declared.views.SeatPhase.{SeatPhase}
use Rattle.ring_steps.specs.declared.views.SeatPhase.TheVariants as seating
use Rattle.ring_steps.specs.Ring.{State, cursor, floor, new_seat, place, seat_at, slot, word}
use Rattle.ring_steps.specs.RingSteps.{by_seat}
use Rattle.ring_steps.specs.Runs.{At, Calls, MoveBy, Turn, outcome_of}
use Rattle.ring_steps.specs.Step.{Outcome, PublisherActs, SeatActs, holds, is_known, next_place}
use Rattle.ring_steps.proofs.Alone.{ring_step_alone}
use Rattle.ring_steps.proofs.Places.{by_test, lt_tells}

-- a bound of the steps to the publisher's answer, by its phase and its next call
abbrev pub publisher_left : PublisherPhase → Option PublisherCall → (written : ℕ) → ℕ
publisher_left publishing.Between (Some (Publish p)) k = length p + 5
publisher_left publishing.Begun (Some (Publish p)) k = length p + 4
publisher_left publishing.Filling (Some (Publish p)) k = (length p - k) + 3
publisher_left phase call k = 1

-- a bound of the steps to a seat's answer, by its phase, the length cell of its packet's slot, the length that it read and how
-- many bytes it read
abbrev pub phase_left : SeatPhase → (len read_len read : ℕ) → ℕ
phase_left seating.Out n m k = 1
phase_left seating.Between n m k = n + 5
phase_left seating.Found n m k = n + 4
phase_left seating.Holding n m k = n + 3
phase_left seating.Reading n m k = (m - k) + 2
phase_left seating.Failed n m k = 2
phase_left seating.Missed n m k = 1

abbrev pub seat_left : State → views.Seat → ℕ
seat_left s x = phase_left x.phase (slot s (place s (cursor x))).len x.length (length x.read)

-- a bound of the steps to an actor's answer
abbrev pub steps_left : Calls → Actor → At → ℕ
steps_left calls P at = publisher_left at.ring.publisher.phase (slice_get calls.publisher at.publisher) at.ring.publisher.written
steps_left calls (Seat i) at = seat_left at.ring (seat_at at.ring i)

publisher_nearer : (phase : PublisherPhase) (call : PublisherCall) (s : State) (o : Outcome) → s.publisher.phase ≡ phase → PublisherActs phase call s o → is_some o.answer ≡ false
    → publisher_left o.state.publisher.phase (Some call) o.state.publisher.written + 1 ≤ publisher_left phase (Some call) s.publisher.written
publisher_nearer publishing.Between (Publish p) s o phase acts =
    rw acts.1 (by_test (is_known s (word s (next_place s))) (λ e. rw e (λ none. omega arith)) (λ e. rw e (λ none. absurd (cc))))
publisher_nearer publishing.Between Close s o phase acts = rw acts.1 (λ none. absurd (cc))
publisher_nearer publishing.Begun (Publish p) s o phase acts = rw acts.1 (λ none. omega arith)
publisher_nearer publishing.Filling (Publish p) s o phase acts =
    let same = ap (λ (q : List ℕ). length q) acts.0 in
    rw acts.1 (elim (lt_tells s.publisher.written (length s.publisher.packet)) [
      | inl e ↦ let below = e.1 in rw (e.0, phase) (λ none. omega arith)
      | inr e ↦ rw e.0 (λ none. omega arith)
    ])
publisher_nearer publishing.Finished (Publish p) s o phase acts = rw acts.1 (λ none. absurd (cc))
publisher_nearer phase call s o eq acts = absurd acts

-- the view that a seat's step leaves, nearer to the answer where it is seen in a ring with the slot's length as it was
pub record Nears (s : State) (i : ℕ) (x : views.Seat) (o : Outcome) : Type 0 where
  pub view : views.Seat
  pub seats : o.state.seats ≡ slice_set s.seats i view
  pub stays : cursor view ≡ cursor x
  pub nearer : phase_left view.phase (slot s (place s (cursor x))).len view.length (length view.read) + 1 ≤ seat_left s x

seat_nearer : (phase : SeatPhase) (call : SeatCall) (s : State) (i : ℕ) (x : views.Seat) (o : Outcome) → x.phase ≡ phase → SeatActs phase call s i x o → is_some o.answer ≡ false → Nears s i x o
seat_nearer seating.Out (Attach n) s i x o phase acts = rw acts (λ none. absurd (cc))
seat_nearer seating.Between Detach s i x o phase acts = rw acts (λ none. absurd (cc))
seat_nearer seating.Between Take s i x o phase acts =
    rw acts (by_test (s.head.length == cursor x) (λ e. rw e (λ none. absurd (cc)))
    (λ e. rw e (by_test (nat_lt (cursor x) (floor s s.head.length)) (λ l. rw l (λ none. absurd (cc)))
    (λ l. rw l (λ none. record { view = _; seats = refl; stays = refl; nearer = rw phase (omega arith) })))))
seat_nearer seating.Found Take s i x o phase acts =
    rw acts (λ none. by_test (holds (word s (place s (cursor x))) (cursor x))
    (λ e. rw e (record { view = _; seats = refl; stays = refl; nearer = rw phase (omega arith) }))
    (λ e. rw e (record { view = _; seats = refl; stays = refl; nearer = rw phase (omega arith) })))
seat_nearer seating.Holding Take s i x o phase acts = rw acts (λ none. record { view = _; seats = refl; stays = refl; nearer = rw phase (omega arith) })
seat_nearer seating.Reading Take s i x o phase acts =
    rw acts (elim (lt_tells (length x.read) x.length) [
      | inl e ↦
          let below = e.1 in
          let more = length-append x.read (slice_index_or (slot s (place s (cursor x))).bytes (length x.read) 0 ∷ []) in
          rw e.0 (λ none. record { view = _; seats = refl; stays = refl; nearer = rw phase (omega arith) })
      | inr e ↦ rw e.0 (λ none. absurd (cc))
    ])
seat_nearer seating.Failed Take s i x o phase acts = rw acts (λ none. record { view = _; seats = refl; stays = refl; nearer = rw phase (omega arith) })
seat_nearer seating.Missed Take s i x o phase acts = rw acts (λ none. absurd (cc))
seat_nearer phase call s i x o eq acts = absurd acts

-- as near it is in a ring that keeps as many, with the lengths of the slots as they were
near_in : (s t : State) (x y : views.Seat) (n : ℕ) → t.keep ≡ s.keep → cursor y ≡ cursor x → ((j : ℕ) → (slot t j).len ≡ (slot s j).len)
    → phase_left y.phase (slot s (place s (cursor x))).len y.length (length y.read) + 1 ≤ n → seat_left t y + 1 ≤ n
near_in s t x y n keep stays cells near =
    let spot : place t (cursor y) ≡ place s (cursor x) = ap (λ k. cursor y % (k + 1)) keep ∙ ap (λ c. c % (s.keep + 1)) stays in
    let len : (slot t (place t (cursor y))).len ≡ (slot s (place s (cursor x))).len = ap (λ j. (slot t j).len) spot ∙ cells (place s (cursor x)) in
    subst (λ m. phase_left y.phase m y.length (length y.read) + 1 ≤ n) (sym len) near

-- a turn that doesn't answer its actor's call brings the answer nearer
pub turn_nearer : (actor : Actor) (calls : Calls) (old : At) (t : Turn) (new : At) → MoveBy actor calls old t new → is_some t.answer ≡ false
    → steps_left calls actor new + 1 ≤ steps_left calls actor old
turn_nearer P calls old t new move none =
    let count : new.publisher ≡ old.publisher = rw none at move.publisher in
    let next = ap (slice_get calls.publisher) count ∙ move.next in
    let near = publisher_nearer old.ring.publisher.phase move.call old.ring (outcome_of new.ring t) refl move.step none in
    rw (next, move.next) near
turn_nearer (Seat i) calls old t new move none =
    let x = move.step.view in
    let nears = seat_nearer x.phase move.call old.ring i x (outcome_of new.ring t) refl move.step.acts none in
    let alone = ring_step_alone old.ring (by_seat i move.call) (outcome_of new.ring t) move.step in
    let before : seat_at old.ring i ≡ x = get_or_from_slice_get old.ring.seats i x new_seat move.step.there in
    let there : slice_get new.ring.seats i ≡ Some nears.view = ap (λ (xs : List views.Seat). slice_get xs i) nears.seats ∙ read_place old.ring.seats i x nears.view move.step.there in
    let after : seat_at new.ring i ≡ nears.view = get_or_from_slice_get new.ring.seats i nears.view new_seat there in
    let near = near_in old.ring new.ring x nears.view (seat_left old.ring x) alone.keep nears.stays (λ j. (alone.cells j).0) nears.nearer in
    subst (λ (z : views.Seat). seat_left new.ring z + 1 ≤ seat_left old.ring (seat_at old.ring i)) (sym after)
    (subst (λ (z : views.Seat). seat_left new.ring nears.view + 1 ≤ seat_left old.ring z) (sym before) near)
