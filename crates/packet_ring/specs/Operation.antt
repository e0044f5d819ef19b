-- What each atomic operation is: one step of the ring's core, by the actor whose token makes it.
use Rattle.std.specs.Prelude.{◌≡◌, ◌⊎◌, ℕ, true, List}
use Rattle.ring_steps.specs.declared.calls.PublisherCall.TheVariants.{Publish}
use Rattle.ring_steps.specs.declared.calls.SeatCall.TheVariants.{Take}
use Rattle.ring_steps.specs.declared.views.PublisherPhase.TheVariants as publishing
use Rattle.ring_steps.specs.declared.views.Seat.{Seat}
use Rattle.ring_steps.specs.declared.views.SeatPhase.TheVariants as seating
use Rattle.ring_steps.specs.Atomic.{is_atomic}
use Rattle.ring_steps.specs.Moves.{read_all, write_all}
use Rattle.ring_steps.specs.Ring as Ring
use Rattle.ring_steps.specs.RingSteps.{By, by_publisher, by_seat, RingStep}
use Rattle.ring_steps.specs.Slots.{IsNextFor, PublisherIs, SeatIs}
use Rattle.ring_steps.specs.Step.{Outcome}
use Rattle.packet_ring.specs.Table.{State}
use Rattle.packet_ring.specs.Rule.{Fits, Limits, View}

-- token 0 steps as the publisher, and token i + 1 as seat i, each within a call
abbrev pub IsOwn : (token : ℕ) → By → Type 0
IsOwn Prim.Native.Nat.zero (by_publisher call) = Unit {0}
IsOwn (Prim.Native.Nat.suc i) (by_seat j call) = j ≡ i
IsOwn token by = ⊥

-- The state that an operation steps from is that of the ring before it; but at a finish the publisher has written
-- its packet since the begin, and at the unpin of a pin that held the seat has read its own since the pin. These
-- are the core's steps on a slot's length cell and bytes, which change no word and answer nothing
abbrev pub StepsFrom : (s : Ring.State) → By → (from : Ring.State) → Type 0
StepsFrom s (by_publisher (Publish p)) from = (from ≡ s) ⊎ (PublisherIs publishing.Begun s × (from ≡ write_all s))
StepsFrom s (by_seat i Take) from = (from ≡ s) ⊎ ((x : Seat) × (p : List ℕ) × SeatIs seating.Holding s i x × IsNextFor s x p × (from ≡ read_all s i x p))
StepsFrom s by from = from ≡ s

-- one atomic operation of this token: the block is in a state of the ring before it and in one after it, and one
-- atomic step of the core, the token's own, leads there
pub record Operation (L : Limits) (token : ℕ) (t t' : State View (List ℕ)) : Type 0 where
  pub old : Ring.State
  pub new : Ring.State
  pub before : Fits L old t
  pub after : Fits L new t'
  pub by : By
  pub own : IsOwn token by
  pub from : Ring.State
  pub copied : StepsFrom old by from
  pub outcome : Outcome
  pub step : RingStep from by outcome
  pub atomic : is_atomic outcome.saw ≡ true
  pub leads : outcome.state ≡ new
