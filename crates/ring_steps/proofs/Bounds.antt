-- In a ring that has room the numbers of a seat and of the publisher fit, and a seat that is to unpin has a pin in its slot.
use Rattle.std.proofs.Common.{◌≡◌, ℕ, ◌+◌, ◌<◌, ◌≤◌, Some, List, [], ◌∷◌, length, slice_get, refl, arith, inl, inr, ◌%◌}
use Rattle.std.proofs.lemmas.Option.{slice_get-get_or}
use Rattle.ring_steps.specs.declared.views.Seat.{Seat}
use Rattle.ring_steps.specs.declared.views.SeatPhase.{SeatPhase}
use Rattle.ring_steps.specs.declared.views.SeatPhase.TheVariants as seating
use Rattle.ring_steps.specs.Ring.{State, seat_at, new_seat, cursor, place, word}
use Rattle.ring_steps.specs.Slots.{Invariant, pin_of, pins_of}
use Rattle.ring_steps.specs.Bounds.{SeatBounds, PublisherBounds, HasRoom}
use Rattle.ring_steps.proofs.Places.{place_within}
use Rattle.ring_steps.proofs.Pinning.{some_pin, one_at, one_if, none_at}
use Rattle.std.proofs.lemmas.Bool.{cases_eq}

pub seat_there : (s : State) (i : ℕ) → i < length s.seats → slice_get s.seats i ≡ Some (seat_at s i)
seat_there s i within = slice_get-get_or s.seats i new_seat within

pub one_most : (a j : ℕ) → one_if a j ≤ 1
one_most a j = elim (cases_eq j a) [
  | inl e ↦ let one = one_at a j e in omega arith
  | inr e ↦ let none = none_at a j e in omega arith
]

pub pin_most : (phase : SeatPhase) (a j : ℕ) → pin_of phase a j ≤ 1
pin_most seating.Out a j = omega arith
pin_most seating.Between a j = omega arith
pin_most seating.Found a j = omega arith
pin_most seating.Holding a j = one_most a j
pin_most seating.Reading a j = one_most a j
pin_most seating.Failed a j = one_most a j
pin_most seating.Missed a j = omega arith

-- there are no more pins than seats
pub pins_most : (k : ℕ) (xs : List Seat) (j : ℕ) → pins_of k xs j ≤ length xs
pins_most k [] j = omega arith
pins_most k (x ∷ xs) j = let one = pin_most x.phase (cursor x % (k + 1)) j in let rest = pins_most k xs j in omega arith

pub seat_bounds : (s : State) (i : ℕ) → Invariant s → HasRoom s → i < length s.seats → SeatBounds s i
seat_bounds s i h room within =
    let there = seat_there s i within in
    let x = seat_at s i in
    let loads = room.counts.loads i x there in
    let misses = room.counts.misses i x there in
    let size = h.slots.numbers.size in
    let log = room.counts.log in
    let seen = h.slots.seen i x there in
    let low = seen.0 in
    let at = h.phases.cursors i x there in
    let j = place s (cursor x) in
    let most = place_within s.keep (cursor x) in
    let width = h.phases.width in
    let pins = h.slots.pins j most in
    let few = pins_most s.keep s.seats j in
    let seats = room.size.seats in
    let keep = room.size.keep in
    record { there = within; loads = omega arith; misses = omega arith; small = omega arith; within = omega arith; keep = omega arith; slot = omega arith; pins = omega arith }

pub reading_pin : (s : State) (i : ℕ) → Invariant s → i < length s.seats → (seat_at s i).phase ≡ seating.Reading → 1 ≤ (word s (place s (cursor (seat_at s i)))).pins
reading_pin s i h within phase = some_pin s i (seat_at s i) h (seat_there s i within) (rw phase (one_at _ _ refl))

pub failed_pin : (s : State) (i : ℕ) → Invariant s → i < length s.seats → (seat_at s i).phase ≡ seating.Failed → 1 ≤ (word s (place s (cursor (seat_at s i)))).pins
failed_pin s i h within phase = some_pin s i (seat_at s i) h (seat_there s i within) (rw phase (one_at _ _ refl))

pub publisher_bounds : (s : State) → Invariant s → HasRoom s → PublisherBounds s
publisher_bounds s h room =
    let most = place_within s.keep (length s.log) in
    let width = h.phases.width in
    let keep = room.size.keep in
    let failed = room.counts.failed in
    record { keep = omega arith; slot = omega arith; failed = omega arith }
