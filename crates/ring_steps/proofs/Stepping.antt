-- Every kind of step keeps the invariant, lets nothing fall, and has no choice.
use Rattle.std.proofs.Common.{◌≡◌, ℕ, Some, [], append-nil, refl, sym, ◌∙◌, arith, slice_get}
use Rattle.std.proofs.lemmas.Option.{same_Some}
use Rattle.ring_steps.specs.declared.views.Seat.{Seat}
use Rattle.ring_steps.specs.declared.views.SeatPhase.{SeatPhase}
use Rattle.ring_steps.specs.declared.views.SeatPhase.TheVariants as seating
use Rattle.ring_steps.specs.Ring.{State, with_seat}
use Rattle.ring_steps.specs.RingSteps.{By, Cell, IsIdle, LookStep, ReadStep, RingStep, by_look, by_publisher, by_read, by_seat}
use Rattle.ring_steps.specs.Slots.{Grows, Invariant}
use Rattle.ring_steps.specs.Step.{Outcome, loaded}
use Rattle.ring_steps.proofs.Growing.{publisher_step_grows, seat_step_grows, view_grows}
use Rattle.ring_steps.proofs.Keeping.{publisher_step_keeps, seat_step_keeps}
use Rattle.ring_steps.proofs.Loads.{sees_now, view_keeps}
use Rattle.ring_steps.proofs.NoChoice.{publisher_step_one, seat_step_one}

-- a load between two calls changes no phase
look_keeps : (phase : SeatPhase) (s : State) (i : ℕ) (x : Seat) → x.phase ≡ phase → IsIdle phase → Invariant s → slice_get s.seats i ≡ Some x → Invariant (with_seat s i (loaded s x))
look_keeps seating.Out s i x phase idle h at =
    let was = h.slots.seen i x at in let within = h.phases.cursors i x at in let size = h.slots.numbers.size in
    view_keeps s i x _ h at (λ j. refl) (record { held = h.slots.held i x at; seen = sees_now s h; cursors = omega arith; knows = rw phase tt })
look_keeps seating.Between s i x phase idle h at =
    let was = h.slots.seen i x at in let within = h.phases.cursors i x at in let size = h.slots.numbers.size in
    view_keeps s i x _ h at (λ j. refl) (record { held = h.slots.held i x at; seen = sees_now s h; cursors = omega arith; knows = rw phase tt })
look_keeps phase s i x is idle h at = absurd idle

-- each step keeps the invariant
pub ring_step_keeps : (s : State) (by : By) (o : Outcome) → RingStep s by o → Invariant s → Invariant o.state
ring_step_keeps s (by_publisher call) o step h = publisher_step_keeps s call o step h
ring_step_keeps s (by_seat i call) o step h = seat_step_keeps s i call o step h
ring_step_keeps s (by_look i) o step h = rw step.acts (look_keeps step.view.phase s i step.view refl step.idle h step.there)
ring_step_keeps s (by_read i cell) o step h = rw step.acts h

-- over each step nothing falls
pub ring_step_grows : (s : State) (by : By) (o : Outcome) → RingStep s by o → Invariant s → Grows s o.state
ring_step_grows s (by_publisher call) o step h = publisher_step_grows s call o step h
ring_step_grows s (by_seat i call) o step h = seat_step_grows s i call o step
ring_step_grows s (by_look i) o step h = rw step.acts (view_grows s i (loaded s step.view))
ring_step_grows s (by_read i cell) o step h = rw step.acts (record { head = omega arith; closed = λ e. e; numbers = λ j. omega arith; log = ([], sym (append-nil s.log)) })

look_one : (s : State) (i : ℕ) (o p : Outcome) → LookStep s i o → LookStep s i p → o ≡ p
look_one s i o p a b =
    let same : b.view ≡ a.view = same_Some b.view a.view (sym b.there ∙ a.there) in
    let acts = b.acts in
    a.acts ∙ sym (rw same at acts)

read_one : (s : State) (i : ℕ) (cell : Cell) (o p : Outcome) → ReadStep s i cell o → ReadStep s i cell p → o ≡ p
read_one s i cell o p a b =
    let same : b.view ≡ a.view = same_Some b.view a.view (sym b.there ∙ a.there) in
    let acts = b.acts in
    a.acts ∙ sym (rw same at acts)

-- a step has no choice
pub ring_step_one : (s : State) (by : By) (o p : Outcome) → RingStep s by o → RingStep s by p → o ≡ p
ring_step_one s (by_publisher call) o p a b = publisher_step_one s call o p a b
ring_step_one s (by_seat i call) o p a b = seat_step_one s i call o p a b
ring_step_one s (by_look i) o p a b = look_one s i o p a b
ring_step_one s (by_read i cell) o p a b = read_one s i cell o p a b
