-- How many pins a slot has after one seat's view changed, and what then holds of each seat.
use Rattle.std.proofs.Common.{◌≡◌, ℕ, zero, suc, ◌+◌, ◌%◌, ◌==◌, ◌≤◌, Some, List, [], ◌∷◌, length, subst, arith, slice_get, slice_set}
use Rattle.ring_steps.specs.declared.views.Seat.{Seat}
use Rattle.ring_steps.specs.declared.views.SeatPhase.{SeatPhase}
use Rattle.ring_steps.specs.declared.views.SeatPhase.TheVariants as seating
use Rattle.ring_steps.specs.Ring.{cursor}
use Rattle.ring_steps.specs.Slots.{pin_of, pins_of}
use Rattle.ring_steps.proofs.Places.{by_test}

-- how many seats pin a slot, after one seat's view changed
pub pins_set : (k : ℕ) (xs : List Seat) (i : ℕ) (x y : Seat) (j : ℕ) → slice_get xs i ≡ Some x
    → pins_of k (slice_set xs i y) j + pin_of x.phase (cursor x % (k + 1)) j ≡ pins_of k xs j + pin_of y.phase (cursor y % (k + 1)) j
pins_set k [] i x y j at = absurd (cc)
pins_set k (z ∷ xs) zero x y j at = let same : z ≡ x = cc in rw (same) (omega arith)
pins_set k (z ∷ xs) (suc i) x y j at = omega (arith, pins_set k xs i x y j at)

-- where there is no pin, no seat has one
pub no_pin : (k : ℕ) (xs : List Seat) (i : ℕ) (x : Seat) (j : ℕ) → slice_get xs i ≡ Some x → pins_of k xs j ≡ 0 → pin_of x.phase (cursor x % (k + 1)) j ≡ 0
no_pin k [] i x j at none = absurd (cc)
no_pin k (z ∷ xs) zero x j at none = let same : z ≡ x = cc in rw (← same) (omega arith)
no_pin k (z ∷ xs) (suc i) x j at none = no_pin k xs i x j at (omega arith)

-- what holds of each seat before, and of the new view, holds of each seat after
pub each_set : (P : Seat → Type 0) (xs : List Seat) (i : ℕ) (y : Seat) → ((k : ℕ) (z : Seat) → slice_get xs k ≡ Some z → P z) → P y
    → (k : ℕ) (z : Seat) → slice_get (slice_set xs i y) k ≡ Some z → P z
each_set P [] i y all new k z at = absurd (cc)
each_set P (x ∷ xs) zero y all new zero z at = let same : y ≡ z = cc in subst P same new
each_set P (x ∷ xs) zero y all new (suc k) z at = all (suc k) z at
each_set P (x ∷ xs) (suc i) y all new zero z at = all zero z at
each_set P (x ∷ xs) (suc i) y all new (suc k) z at = each_set P xs i y (λ n w h. all (suc n) w h) new k z at

-- a seat's pin is one of those counted
pub pin_counted : (k : ℕ) (xs : List Seat) (i : ℕ) (x : Seat) (j : ℕ) → slice_get xs i ≡ Some x → pin_of x.phase (cursor x % (k + 1)) j ≤ pins_of k xs j
pin_counted k [] i x j at = absurd (cc)
pin_counted k (z ∷ xs) zero x j at = let same : z ≡ x = cc in rw (← same) (omega arith)
pin_counted k (z ∷ xs) (suc i) x j at = let rest = pin_counted k xs i x j at in omega arith

pin_once : (phase : SeatPhase) (at j : ℕ) → pin_of phase at j ≤ 1
pin_once seating.Out at j = omega arith
pin_once seating.Between at j = omega arith
pin_once seating.Found at j = omega arith
pin_once seating.Holding at j = by_test (at == j) (λ e. rw e (omega arith)) (λ e. rw e (omega arith))
pin_once seating.Reading at j = by_test (at == j) (λ e. rw e (omega arith)) (λ e. rw e (omega arith))
pin_once seating.Failed at j = by_test (at == j) (λ e. rw e (omega arith)) (λ e. rw e (omega arith))
pin_once seating.Missed at j = omega arith

-- no more seats pin a slot than there are
pub pins_within : (k : ℕ) (xs : List Seat) (j : ℕ) → pins_of k xs j ≤ length xs
pins_within k [] j = omega arith
pins_within k (x ∷ xs) j = let one = pin_once x.phase (cursor x % (k + 1)) j in let rest = pins_within k xs j in omega arith
