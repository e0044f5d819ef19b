-- The first call out of turn of a script's seats, seat by seat.
use Rattle.std.specs.Prelude.{◌≡◌, ◌<◌, ℕ, Some, List, slice_get}
use Rattle.ring_steps.specs.declared.calls.SeatCall.{SeatCall}
use Rattle.ring_steps.specs.Scripts.{IsOutOfTurn}

-- none of the seats below this one has a call out of turn
abbrev pub NoneOutOfTurn : List (List SeatCall) → (below : ℕ) → Type 0
NoneOutOfTurn seats below = (s : ℕ) (own : List SeatCall) (m : ℕ) → s < below → slice_get seats s ≡ Some own → ¬ IsOutOfTurn own m

-- a seat's first call that is out of turn, where no seat before it has one
pub record IsFirstOutOfTurn (seats : List (List SeatCall)) (seat n : ℕ) : Type 0 where
  pub own : List SeatCall
  pub there : slice_get seats seat ≡ Some own
  pub bad : IsOutOfTurn own n
  pub first : (m : ℕ) → m < n → ¬ IsOutOfTurn own m
  pub before : NoneOutOfTurn seats seat
