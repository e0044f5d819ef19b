-- A ring that nobody used yet has the invariant, and so has a ring with one seat more.
use Rattle.std.proofs.Common.{◌≡◌, ℕ, zero, suc, ◌+◌, ◌-◌, ◌%◌, ◌<◌, ◌≤◌, true, false, Some, List, [], ◌∷◌, ◌++◌, length, refl, sym, ◌∙◌, ap, subst, arith, slice_get, slice_index_or, Result, Ok, Err}
use Rattle.std.specs.Prelude.{replicate, IfOk}
use Rattle.ring_steps.specs.declared.words.Slot.{Slot}
use Rattle.ring_steps.specs.declared.words.Word.{Word}
use Rattle.ring_steps.specs.declared.views.Seat.{Seat}
use Rattle.ring_steps.specs.Ring.{AreFresh, State, place, cursor, fresh_slot, empty_ring, new_ring, new_seat, with_new_seat}
use Rattle.ring_steps.specs.Slots.{Invariant, IsHolding, SeatKnows, HasNumber, pin_of, pins_of}
use Rattle.ring_steps.proofs.Begins.{overtaken_by}

pub same_fresh : (n j : ℕ) → slice_index_or (replicate n fresh_slot) j fresh_slot ≡ fresh_slot
same_fresh zero j = refl
same_fresh (suc n) zero = refl
same_fresh (suc n) (suc j) = same_fresh n j

pub same_seat : (n i : ℕ) (x : Seat) → slice_get (replicate n new_seat) i ≡ Some x → new_seat ≡ x
same_seat zero i x at = absurd (cc)
same_seat (suc n) zero x at = cc
same_seat (suc n) (suc i) x at = same_seat n i x at

-- the view of each new seat, there or not
pub get_new : (n i : ℕ) → slice_index_or (replicate n new_seat) i new_seat ≡ new_seat
get_new zero i = refl
get_new (suc n) zero = refl
get_new (suc n) (suc i) = get_new n i

pub no_pins : (k n j : ℕ) → pins_of k (replicate n new_seat) j ≡ 0
no_pins k zero j = refl
no_pins k (suc n) j = omega (arith, no_pins k n j)

pub length_fresh : (n : ℕ) → length (replicate n fresh_slot) ≡ n
length_fresh zero = refl
length_fresh (suc n) = ap suc (length_fresh n)

-- of each new seat
pub each_new : (P : Seat → Type 0) (n : ℕ) → P new_seat → (i : ℕ) (x : Seat) → slice_get (replicate n new_seat) i ≡ Some x → P x
each_new P zero p i x at = absurd (cc)
each_new P (suc n) p zero x at = let same : new_seat ≡ x = cc in subst P same p
each_new P (suc n) p (suc i) x at = each_new P n p i x at

-- a ring that nobody used yet has the invariant, whatever its cells are
pub new_keeps : (keep seats : ℕ) (slots : List Slot) → 1 ≤ keep → AreFresh keep slots → Invariant (new_ring keep seats slots)
new_keeps keep seats slots low are =
    let s = new_ring keep seats slots in
    let is = are.words in
    let kept : (n : ℕ) → 0 - keep ≤ n → n < 0 → HasNumber s (place s n) n = λ n l h. absurd (omega arith) in
    record {
      slots = record {
        pins = λ j within. ap (λ (w : Word). w.pins) (is j) ∙ sym (no_pins keep seats j);
        writing = λ j within. (λ w. absurd (let clear = ap (λ (z : Word). z.writing) (is j) in cc), λ w. absurd w.0);
        numbers = record {
          size = refl;
          closed = refl;
          kept = kept;
          next = ap (λ (w : Word). w.number) (is (place s 0)) ∙ omega arith;
          fresh = λ j a b. ap (λ (w : Word). w.number) (is j);
        };
        packets = λ j n within e. absurd (let none = ap (λ (w : Word). w.number) (is j) in let some = e.0 in omega arith);
        held = each_new (λ (x : Seat). IsHolding x.phase → HasNumber s (place s (cursor x)) (cursor x)) seats (λ e. absurd e);
        overtaken = overtaken_by s kept;
        seen = each_new (λ (x : Seat). (x.seen ≤ 0) × (x.saw_closed ≡ true → (x.seen ≡ 0) × (false ≡ true))) seats (omega arith, λ e. absurd (cc));
      };
      phases = record {
        keeps = low;
        width = are.width;
        ended = λ e. refl;
        did = tt;
        cursors = each_new (λ (x : Seat). cursor x ≤ x.seen) seats (omega arith);
        knows = each_new (λ (x : Seat). SeatKnows x.phase keep [] x) seats tt;
      };
    }

pub empty_keeps : (keep seats : ℕ) → 1 ≤ keep → Invariant (empty_ring keep seats)
empty_keeps keep seats low = new_keeps keep seats _ low (record { width = length_fresh (keep + 1); words = λ j. ap (λ (x : Slot). x.word) (same_fresh (keep + 1) j) })

-- one seat more pins nothing
pins_more : (k : ℕ) (xs : List Seat) (j : ℕ) → pins_of k (xs ++ new_seat ∷ []) j ≡ pins_of k xs j
pins_more k [] j = refl
pins_more k (x ∷ xs) j = ap (λ n. pin_of x.phase (cursor x % (k + 1)) j + n) (pins_more k xs j)

-- of each seat, and of one more
each_more : (P : Seat → Type 0) (xs : List Seat) → ((i : ℕ) (x : Seat) → slice_get xs i ≡ Some x → P x) → P new_seat
    → (i : ℕ) (x : Seat) → slice_get (xs ++ new_seat ∷ []) i ≡ Some x → P x
each_more P [] all new i x at = each_new P 1 new i x at
each_more P (z ∷ xs) all new zero x at = all zero x at
each_more P (z ∷ xs) all new (suc i) x at = each_more P xs (λ n w h. all (suc n) w h) new i x at

-- a ring with one seat more has the invariant
pub seat_more_keeps : (s : State) → Invariant s → Invariant (with_new_seat s)
seat_more_keeps s h = record {
  slots = record {
    pins = λ j within. h.slots.pins j within ∙ sym (pins_more s.keep s.seats j);
    writing = h.slots.writing;
    numbers = record {
      size = h.slots.numbers.size;
      closed = h.slots.numbers.closed;
      kept = h.slots.numbers.kept;
      next = h.slots.numbers.next;
      fresh = h.slots.numbers.fresh;
    };
    packets = h.slots.packets;
    held = each_more (λ (x : Seat). IsHolding x.phase → HasNumber s (place s (cursor x)) (cursor x)) s.seats h.slots.held (λ e. absurd e);
    overtaken = h.slots.overtaken;
    seen = each_more (λ (x : Seat). (x.seen ≤ length s.log) × (x.saw_closed ≡ true → (x.seen ≡ length s.log) × (s.publisher.closed ≡ true))) s.seats h.slots.seen (omega arith, λ e. absurd (cc));
  };
  phases = record {
    keeps = h.phases.keeps;
    width = h.phases.width;
    ended = h.phases.ended;
    did = h.phases.did;
    cursors = each_more (λ (x : Seat). cursor x ≤ x.seen) s.seats h.phases.cursors (omega arith);
    knows = each_more (λ (x : Seat). SeatKnows x.phase s.keep s.log x) s.seats h.phases.knows tt;
  };
}

-- what follows from what a clause says of the value in an `Ok`
pub ok_then : {X E : Type 0} (r : Result X E) (P Q : X → Type 0) → IfOk r P → ((x : X) → P x → Q x) → IfOk r Q
ok_then (Ok x) P Q h f = f x h
ok_then (Err e) P Q h f = h
