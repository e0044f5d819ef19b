-- The numbers that a seat took rise, and each number from its start to its cursor was taken or lies in one loss, once.
use Rattle.std.proofs.Common.{◌≡◌, ℕ, ◌+◌, ◌<◌, ◌≤◌, ◌==◌, Bool, true, false, cond, List, [], ◌∷◌, zero, suc, length, count_by, refl, ◌∙◌, ap, arith, slice_index, inl, inr}
use Rattle.std.specs.List.Sorted.{IsStrictlyIncreasing}
use Rattle.std.proofs.lemmas.Bool.{cases_lt, cases_eq}
use Rattle.std.proofs.lemmas.Bool.Decides.{nat_tests}
use Rattle.std.proofs.lemmas.List.Sums.{sum_by-cons}
use Rattle.cursor.specs.declared.packets.Packet.{Packet}
use Rattle.cursor.specs.declared.takes.Delivery.{Delivery}
use Rattle.cursor.specs.declared.takes.Delivery.TheVariants.{Got, Lost, Empty, Ended}
use Rattle.cursor.specs.Account.{lies_in, losses, positions}
use Rattle.cursor.proofs.Attachments.{Settles}

-- the positions from a cursor on aren't below it
pub positions_above : (packets : List Packet) (c : ℕ) (ds : List Delivery) (e : ℕ) → Settles packets c ds e
    → (k : ℕ) → k < length (positions ds) → c ≤ slice_index (positions ds) k
positions_above packets c [] e h k below = omega arith
positions_above packets c (Got n p ∷ ds) e h zero below = let at = h.0 in omega arith
positions_above packets c (Got n p ∷ ds) e h (suc k) below = omega (arith, positions_above packets (c + 1) ds e h.2 k (omega arith))
positions_above packets c (Lost n ∷ ds) e h k below = omega (arith, positions_above packets (c + n) ds e h k below)
positions_above packets c (Empty ∷ ds) e h k below = positions_above packets c ds e h k below
positions_above packets c (Ended ∷ ds) e h k below = positions_above packets c ds e h k below

-- a number before others that rise
pub IsStrictlyIncreasing-cons : (x : ℕ) (xs : List ℕ) → (0 < length xs → x < slice_index xs 0) → IsStrictlyIncreasing xs → IsStrictlyIncreasing (x ∷ xs)
IsStrictlyIncreasing-cons x xs first rest zero below = first (omega arith)
IsStrictlyIncreasing-cons x xs first rest (suc k) below =
    let e : suc k + 1 ≡ suc (k + 1) = omega arith in
    rw e (rest k (omega arith))

pub positions-rise : (packets : List Packet) (c : ℕ) (ds : List Delivery) (e : ℕ) → Settles packets c ds e → IsStrictlyIncreasing (positions ds)
positions-rise packets c [] e h = λ k below. omega arith
positions-rise packets c (Got n p ∷ ds) e h =
    let at = h.0 in
    IsStrictlyIncreasing-cons n (positions ds) (λ below. omega (arith, positions_above packets (c + 1) ds e h.2 0 below)) (positions-rise packets (c + 1) ds e h.2)
positions-rise packets c (Lost n ∷ ds) e h = positions-rise packets (c + n) ds e h
positions-rise packets c (Empty ∷ ds) e h = positions-rise packets c ds e h
positions-rise packets c (Ended ∷ ds) e h = positions-rise packets c ds e h

-- how often a number is a position, and in how many losses it lies
abbrev pub position_count : ℕ → List Delivery → ℕ
position_count n ds = count_by (λ m. m == n) (positions ds)

abbrev pub loss_count : ℕ → ℕ → List Delivery → ℕ
loss_count n c ds = count_by (lies_in n) (losses c ds)

pub eq_no : (m n : ℕ) → n < m → (m == n) ≡ false
eq_no m n below = grind (arith, nat_tests)

pub eq_no' : (m n : ℕ) → m < n → (m == n) ≡ false
eq_no' m n below = grind (arith, nat_tests)

pub eq_yes : (m n : ℕ) → m ≡ n → (m == n) ≡ true
eq_yes m n e = grind (arith, nat_tests)

pub lies_below : (n c k : ℕ) → n < c → lies_in n (record { first = c; count = k }) ≡ false
lies_below n c k below = grind (arith, nat_tests)

pub lies_past : (n c k : ℕ) → c + k ≤ n → lies_in n (record { first = c; count = k }) ≡ false
lies_past n c k past = grind (arith, nat_tests)

pub lies_within : (n c k : ℕ) → c ≤ n → n < c + k → lies_in n (record { first = c; count = k }) ≡ true
lies_within n c k above below = grind (arith, nat_tests)

pub count-cons : {X : Type 0} (p : X → Bool) (x : X) (xs : List X) (b : Bool) (k n : ℕ) → p x ≡ b → count_by p xs ≡ k → cond b 1 0 + k ≡ n → count_by p (x ∷ xs) ≡ n
count-cons p x xs b k n test rest total = sum_by-cons (λ y. cond (p y) 1 0) x xs ∙ ap (λ v. cond v 1 0 + count_by p xs) test ∙ ap (λ m. cond b 1 0 + m) rest ∙ total

-- a number below the cursor is no later position, and lies in no later loss
pub none_below : (packets : List Packet) (c : ℕ) (ds : List Delivery) (e n : ℕ) → Settles packets c ds e → n < c → (position_count n ds ≡ 0) × (loss_count n c ds ≡ 0)
none_below packets c [] e n h below = (refl, refl)
none_below packets c (Got m p ∷ ds) e n h below =
    let at = h.0 in
    let rest = none_below packets (c + 1) ds e n h.2 (omega arith) in
    (count-cons (λ m. m == n) m (positions ds) false 0 0 (eq_no m n (omega arith)) rest.0 refl, rest.1)
none_below packets c (Lost k ∷ ds) e n h below =
    let rest = none_below packets (c + k) ds e n h (omega arith) in
    (rest.0, count-cons (lies_in n) (record { first = c; count = k }) (losses (c + k) ds) false 0 0 (lies_below n c k below) rest.1 refl)
none_below packets c (Empty ∷ ds) e n h below = none_below packets c ds e n h below
none_below packets c (Ended ∷ ds) e n h below = none_below packets c ds e n h below

-- a number from the cursor on is one position, or lies in one loss
pub once : (packets : List Packet) (c : ℕ) (ds : List Delivery) (e n : ℕ) → Settles packets c ds e → c ≤ n → n < e → position_count n ds + loss_count n c ds ≡ 1
once packets c [] e n h above below = let end = h.0 in absurd (omega arith)
once packets c (Got m p ∷ ds) e n h above below =
    let at = h.0 in
    elim (cases_eq m n) [
      | inl same ↦
          let rest = none_below packets (c + 1) ds e n h.2 (omega arith) in
          let one = count-cons (λ m. m == n) m (positions ds) true 0 1 (eq_yes m n same) rest.0 refl in
          rw (one, rest.1) refl
      | inr other ↦
          let no : (m == n) ≡ false = eq_no' m n (omega arith) in
          let same = count-cons (λ m. m == n) m (positions ds) false (position_count n ds) (position_count n ds) no refl (omega arith) in
          rw same (once packets (c + 1) ds e n h.2 (omega arith) below)
    ]
once packets c (Lost k ∷ ds) e n h above below =
    elim (cases_lt n (c + k)) [
      | inl within ↦
          let rest = none_below packets (c + k) ds e n h within in
          let one = count-cons (lies_in n) (record { first = c; count = k }) (losses (c + k) ds) true 0 1 (lies_within n c k above within) rest.1 refl in
          rw (one, rest.0) refl
      | inr past ↦
          let same = count-cons (lies_in n) (record { first = c; count = k }) (losses (c + k) ds) false (loss_count n (c + k) ds) (loss_count n (c + k) ds) (lies_past n c k past) refl (omega arith) in
          rw same (once packets (c + k) ds e n h past below)
    ]
once packets c (Empty ∷ ds) e n h above below = once packets c ds e n h above below
once packets c (Ended ∷ ds) e n h above below = once packets c ds e n h above below
