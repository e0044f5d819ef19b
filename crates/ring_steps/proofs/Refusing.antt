-- No step but a begin refuses, and in a run a refused begin saw the pins of the seats in its slot.
use Rattle.std.proofs.Common.{◌≡◌, ℕ, ◌==◌, ◌≤◌, Some, List, length, ap, refl, nat_lt}
use Rattle.cursor.specs.declared.calls.Answer.TheVariants.{Refused}
use Rattle.ring_steps.specs.declared.calls.Actor.{Actor}
use Rattle.ring_steps.specs.declared.calls.Actor.TheVariants.{P, Seat}
use Rattle.ring_steps.specs.declared.calls.PublisherCall.{PublisherCall}
use Rattle.ring_steps.specs.declared.calls.PublisherCall.TheVariants.{Publish, Close}
use Rattle.ring_steps.specs.declared.calls.SeatCall.{SeatCall}
use Rattle.ring_steps.specs.declared.calls.SeatCall.TheVariants.{Attach, Take, Detach}
use Rattle.ring_steps.specs.declared.views.PublisherPhase.{PublisherPhase}
use Rattle.ring_steps.specs.declared.views.PublisherPhase.TheVariants as publishing
use Rattle.ring_steps.specs.declared.views.Seat as views
use Rattle.ring_steps.specs.declared.views.SeatPhase.{SeatPhase}
use Rattle.ring_steps.specs.declared.views.SeatPhase.TheVariants as seating
use Rattle.ring_steps.specs.Ring.{State, cursor, floor}
use Rattle.ring_steps.specs.Runs.{At, Calls, Move, MoveBy, Ran, Turn, outcome_of, start}
use Rattle.ring_steps.specs.Slots.{Invariant, SawPins}
use Rattle.ring_steps.specs.Step.{Outcome, PublisherActs, SeatActs}
use Rattle.ring_steps.proofs.Begins.{refused_step}
use Rattle.ring_steps.proofs.Opening.{empty_keeps}
use Rattle.ring_steps.proofs.Places.{by_test}
use Rattle.ring_steps.proofs.Running.{ran_keeps}

-- no step of a seat refuses
seat_never : (phase : SeatPhase) (call : SeatCall) (s : State) (i : ℕ) (x : views.Seat) (o : Outcome) → SeatActs phase call s i x o → o.answer ≡ Some Refused → ⊥
seat_never seating.Out (Attach n) s i x o acts is = let e = ap (λ (q : Outcome). q.answer) acts in cc
seat_never seating.Between Detach s i x o acts is = let e = ap (λ (q : Outcome). q.answer) acts in cc
seat_never seating.Between Take s i x o acts is =
    let e = ap (λ (q : Outcome). q.answer) acts in
    by_test (s.head.length == cursor x) (λ a. let f = rw a at e in cc)
    (λ a. let f = rw a at e in by_test (nat_lt (cursor x) (floor s s.head.length)) (λ b. let g = rw b at f in cc) (λ b. let g = rw b at f in cc))
seat_never seating.Found Take s i x o acts is = let e = ap (λ (q : Outcome). q.answer) acts in cc
seat_never seating.Holding Take s i x o acts is = let e = ap (λ (q : Outcome). q.answer) acts in cc
seat_never seating.Reading Take s i x o acts is =
    let e = ap (λ (q : Outcome). q.answer) acts in
    by_test (nat_lt (length x.read) x.length) (λ a. let f = rw a at e in cc) (λ a. let f = rw a at e in cc)
seat_never seating.Failed Take s i x o acts is = let e = ap (λ (q : Outcome). q.answer) acts in cc
seat_never seating.Missed Take s i x o acts is = let e = ap (λ (q : Outcome). q.answer) acts in cc
seat_never phase call s i x o acts is = absurd acts

-- nor does a close
close_never : (phase : PublisherPhase) (s : State) (o : Outcome) → PublisherActs phase Close s o → o.answer ≡ Some Refused → ⊥
close_never publishing.Between s o acts is = let e = ap (λ (q : Outcome). q.answer) acts.1 in cc
close_never phase s o acts is = absurd acts

refused_by : (call : PublisherCall) (s : State) (t : Turn) (u : State) → PublisherActs s.publisher.phase call s (outcome_of u t) → t.answer ≡ Some Refused → Invariant s → SawPins s t.saw
refused_by (Publish p) s t u acts is h = refused_step s.publisher.phase p s (outcome_of u t) refl acts is h
refused_by Close s t u acts is h = absurd (close_never s.publisher.phase s (outcome_of u t) acts is)

move_met : (actor : Actor) (script : Calls) (old : At) (t : Turn) (new : At) → MoveBy actor script old t new → t.answer ≡ Some Refused → Invariant old.ring → SawPins old.ring t.saw
move_met P script old t new move is h = refused_by move.call old.ring t new.ring move.step is h
move_met (Seat i) script old t new move is h = absurd (seat_never move.step.view.phase move.call old.ring i move.step.view (outcome_of new.ring t) move.step.acts is)

pub refused_met : (script : Calls) (keep seats : ℕ) (turns : List Turn) (mid new : At) (t : Turn) → 1 ≤ keep → Ran script (start keep seats) turns mid → Move script mid t new
    → t.answer ≡ Some Refused → SawPins mid.ring t.saw
refused_met script keep seats turns mid new t low ran move is =
    move_met t.actor script mid t new move is (ran_keeps script (start keep seats) turns mid ran (empty_keeps keep seats low))
