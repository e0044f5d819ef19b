-- Each step of a seat and of the publisher keeps the invariant, by the lemmas on each kind of step.
use Rattle.std.proofs.Common.{◌≡◌, ℕ, Some, slice_get, refl, Result, Ok, Err}
use Rattle.std.specs.Prelude.{IfOk, OnErr}
use Rattle.ring_steps.specs.declared.calls.PublisherCall.{PublisherCall}
use Rattle.ring_steps.specs.declared.calls.PublisherCall.TheVariants.{Publish, Close}
use Rattle.ring_steps.specs.declared.calls.SeatCall.{SeatCall}
use Rattle.ring_steps.specs.declared.calls.SeatCall.TheVariants.{Attach, Take, Detach}
use Rattle.ring_steps.specs.declared.calls.Stepped.{Stepped}
use Rattle.ring_steps.specs.declared.views.Seat.{Seat}
use Rattle.ring_steps.specs.declared.views.PublisherPhase.{PublisherPhase}
use Rattle.ring_steps.specs.declared.views.PublisherPhase.TheVariants as publishing
use Rattle.ring_steps.specs.declared.views.SeatPhase.{SeatPhase}
use Rattle.ring_steps.specs.declared.views.SeatPhase.TheVariants as seating
use Rattle.ring_steps.specs.Ring.{State}
use Rattle.ring_steps.specs.Step.{Outcome, SeatActs, SeatStep, PublisherActs, PublisherStep}
use Rattle.ring_steps.specs.Slots.{Invariant}
use Rattle.ring_steps.proofs.Loads.{attach_keeps, detach_keeps, first_load_keeps, second_load_keeps}
use Rattle.ring_steps.proofs.Pinning.{pin_keeps, unpin_failed_keeps}
use Rattle.ring_steps.proofs.Reading.{read_length_keeps, read_on_keeps}
use Rattle.ring_steps.proofs.Begins.{begin_keeps}
use Rattle.ring_steps.proofs.Writing.{write_length_keeps, write_on_keeps, append_keeps, close_keeps}

-- each step of a seat keeps the invariant
pub seat_acts_keep : (phase : SeatPhase) (call : SeatCall) (s : State) (i : ℕ) (x : Seat) (o : Outcome) → x.phase ≡ phase → SeatActs phase call s i x o
    → Invariant s → slice_get s.seats i ≡ Some x → Invariant o.state
seat_acts_keep seating.Out (Attach n) s i x o phase acts h at = rw acts (attach_keeps s i x n h at phase)
seat_acts_keep seating.Between Detach s i x o phase acts h at = rw acts (detach_keeps s i x h at phase)
seat_acts_keep seating.Between Take s i x o phase acts h at = rw acts (first_load_keeps s i x h at phase)
seat_acts_keep seating.Found Take s i x o phase acts h at = rw acts (pin_keeps s i x h at phase)
seat_acts_keep seating.Holding Take s i x o phase acts h at = rw acts (read_length_keeps s i x h at phase)
seat_acts_keep seating.Reading Take s i x o phase acts h at = rw acts (read_on_keeps s i x h at phase)
seat_acts_keep seating.Failed Take s i x o phase acts h at = rw acts (unpin_failed_keeps s i x h at phase)
seat_acts_keep seating.Missed Take s i x o phase acts h at = rw acts (second_load_keeps s i x h at phase)
seat_acts_keep phase call s i x o eq acts h at = absurd acts

pub seat_step_keeps : (s : State) (i : ℕ) (call : SeatCall) (o : Outcome) → SeatStep s i call o → Invariant s → Invariant o.state
seat_step_keeps s i call o step h = seat_acts_keep step.view.phase call s i step.view o refl step.acts h step.there

-- each step of the publisher keeps the invariant
pub publisher_acts_keep : (phase : PublisherPhase) (call : PublisherCall) (s : State) (o : Outcome) → s.publisher.phase ≡ phase → PublisherActs phase call s o
    → Invariant s → Invariant o.state
publisher_acts_keep publishing.Between (Publish p) s o phase acts h = rw acts.1 (begin_keeps s p h phase acts.0)
publisher_acts_keep publishing.Between Close s o phase acts h = rw acts.1 (close_keeps s h phase)
publisher_acts_keep publishing.Begun (Publish p) s o phase acts h = rw acts.1 (write_length_keeps s h phase)
publisher_acts_keep publishing.Filling (Publish p) s o phase acts h = rw acts.1 (write_on_keeps s h phase)
publisher_acts_keep publishing.Finished (Publish p) s o phase acts h = rw acts.1 (append_keeps s h phase)
publisher_acts_keep phase call s o eq acts h = absurd acts

pub publisher_step_keeps : (s : State) (call : PublisherCall) (o : Outcome) → PublisherStep s call o → Invariant s → Invariant o.state
publisher_step_keeps s call o step h = publisher_acts_keep s.publisher.phase call s o refl step h

-- after a step, or where nothing changed, the invariant holds
pub kept_either : {E : Type 0} (r : Result Stepped E) (old new : State) (P : Stepped → Type 0) → Invariant old → ((t : Stepped) → P t → Invariant new)
    → IfOk r P → OnErr r (new ≡ old) → Invariant new
kept_either (Ok t) old new P h keeps step err = keeps t step
kept_either (Err e) old new P h keeps step err = rw err h
