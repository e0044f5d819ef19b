-- A step of a seat, or of the publisher, in a given call from a given state leads to one outcome.
use Rattle.std.proofs.Common.{◌≡◌, ℕ, sym, ◌∙◌, subst}
use Rattle.std.proofs.lemmas.Option.{same_Some}
use Rattle.ring_steps.specs.declared.calls.PublisherCall.{PublisherCall}
use Rattle.ring_steps.specs.declared.calls.PublisherCall.TheVariants.{Publish, Close}
use Rattle.ring_steps.specs.declared.calls.SeatCall.{SeatCall}
use Rattle.ring_steps.specs.declared.calls.SeatCall.TheVariants.{Attach, Take, Detach}
use Rattle.ring_steps.specs.declared.views.PublisherPhase.{PublisherPhase}
use Rattle.ring_steps.specs.declared.views.PublisherPhase.TheVariants as publishing
use Rattle.ring_steps.specs.declared.views.Seat.{Seat}
use Rattle.ring_steps.specs.declared.views.SeatPhase.{SeatPhase}
use Rattle.ring_steps.specs.declared.views.SeatPhase.TheVariants as seating
use Rattle.ring_steps.specs.Ring.{State}
use Rattle.ring_steps.specs.Step.{Outcome, PublisherActs, PublisherStep, SeatActs, SeatStep}

seat_acts_one : (phase : SeatPhase) (call : SeatCall) (s : State) (i : ℕ) (x : Seat) (o p : Outcome) → SeatActs phase call s i x o → SeatActs phase call s i x p → o ≡ p
seat_acts_one seating.Out (Attach n) s i x o p a b = a ∙ sym b
seat_acts_one seating.Between Detach s i x o p a b = a ∙ sym b
seat_acts_one seating.Between Take s i x o p a b = a ∙ sym b
seat_acts_one seating.Found Take s i x o p a b = a ∙ sym b
seat_acts_one seating.Holding Take s i x o p a b = a ∙ sym b
seat_acts_one seating.Reading Take s i x o p a b = a ∙ sym b
seat_acts_one seating.Failed Take s i x o p a b = a ∙ sym b
seat_acts_one seating.Missed Take s i x o p a b = a ∙ sym b
seat_acts_one phase call s i x o p a b = absurd a

pub seat_step_one : (s : State) (i : ℕ) (call : SeatCall) (o p : Outcome) → SeatStep s i call o → SeatStep s i call p → o ≡ p
seat_step_one s i call o p a b =
    let same : b.view ≡ a.view = same_Some b.view a.view (sym b.there ∙ a.there) in
    seat_acts_one a.view.phase call s i a.view o p a.acts (subst (λ (y : Seat). SeatActs y.phase call s i y p) same b.acts)

publisher_acts_one : (phase : PublisherPhase) (call : PublisherCall) (s : State) (o p : Outcome) → PublisherActs phase call s o → PublisherActs phase call s p → o ≡ p
publisher_acts_one publishing.Between (Publish q) s o p a b = a.1 ∙ sym b.1
publisher_acts_one publishing.Between Close s o p a b = a.1 ∙ sym b.1
publisher_acts_one publishing.Begun (Publish q) s o p a b = a.1 ∙ sym b.1
publisher_acts_one publishing.Filling (Publish q) s o p a b = a.1 ∙ sym b.1
publisher_acts_one publishing.Finished (Publish q) s o p a b = a.1 ∙ sym b.1
publisher_acts_one phase call s o p a b = absurd a

pub publisher_step_one : (s : State) (call : PublisherCall) (o p : Outcome) → PublisherStep s call o → PublisherStep s call p → o ≡ p
publisher_step_one s call o p a b = publisher_acts_one s.publisher.phase call s o p a b
