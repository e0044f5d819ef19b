-- The block's rule holds at the start.
use Rattle.std.proofs.Common.{◌≡◌, ℕ, zero, suc, ◌+◌, ◌*◌, ◌≤◌, List, ◌∷◌, map, length, replicate, get_or, Option, Some, None, ◌-◌, sym, refl, ap, ◌∙◌, subst, suc-mul, zero-mul, ◌++◌, arith}
use lib.ListN.{length-replicate, get_or-replicate}
use Rattle.ring_steps.specs.declared.words.Slot.{Slot}
use Rattle.ring_steps.specs.Ring.{empty_ring, new_seat, fresh_slot}
use Rattle.ring_steps.specs.Bits.{word_bits}
use Rattle.ring_steps.proofs.Opening.{empty_keeps, same_fresh}
use Rattle.packet_ring.specs.Table.{Access, exclusive, readable, AreWide, opening, flat}
use Rattle.packet_ring.specs.Rule.{Holds, View, HasCells, AccessFits, holders, fresh_units, fresh_views, publisher_view, seat_view}

map_same : {A B : Type 0} (f : A → B) (n : ℕ) (a : A) → map f (replicate n a) ≡ replicate n (f a)
map_same f zero a = refl
map_same f (suc n) a = ap (λ (xs : List _). f a ∷ xs) (map_same f n a)

no_holders : (keep n j : ℕ) → 0 ≡ holders keep (replicate n new_seat) j
no_holders keep zero j = refl
no_holders keep (suc n) j = let h = no_holders keep n j in omega arith

fresh_cells : (width : ℕ) → HasCells (replicate width 0) fresh_slot
fresh_cells zero = (refl, refl)
fresh_cells (suc w) = (refl, refl)

fresh_fits : (keep seats width j : ℕ) → AccessFits (empty_ring keep seats) j (readable 0 (replicate width 0))
fresh_fits keep seats width j = let at : get_or (replicate (keep + 1) fresh_slot) j fresh_slot ≡ fresh_slot = same_fresh (keep + 1) j in
    (ap (λ (t : Slot). t.word.writing) at, no_holders keep seats j, subst (HasCells (replicate width 0)) (sym at) (fresh_cells width))

fresh_accesses : (keep seats width j : ℕ) → j ≤ keep → AccessFits (empty_ring keep seats) j (get_or (map (λ u. readable 0 u.1) (fresh_units keep width)) (suc j) exclusive)
fresh_accesses keep seats width j near = let cells : List ℕ = replicate width 0 in
    subst (AccessFits (empty_ring keep seats) j) (sym (ap (λ (hs : List Access). get_or hs j exclusive) (map_same (λ u. readable 0 u.1) (keep + 1) (0, cells)) ∙ get_or-replicate (keep + 1) j (readable 0 cells) exclusive (omega arith))) (fresh_fits keep seats width j)

pub fresh_holds : (keep seats width most : ℕ) → 1 ≤ keep → seats ≤ 1024 → Holds (seats, most) (opening (fresh_units keep width) (fresh_views seats))
fresh_holds keep seats width most some few = (
  empty_ring keep seats,
  record {
    sound = empty_keeps keep seats some;
    few = length-replicate seats new_seat;
    many = few;
    packets = λ n l. absurd (omega arith);
    pending = tt;
    short = omega arith;
    words = ap (λ (ns : List ℕ). 0 ∷ ns) (map_same (λ u. u.0) (keep + 1) (0, replicate width 0) ∙ sym (map_same (λ (x : Slot). word_bits x.word) (keep + 1) fresh_slot));
    views = ap (λ (vs : List View). publisher_view (empty_ring keep seats) ∷ vs) (sym (map_same seat_view seats new_seat));
    log = refl;
    accesses = fresh_accesses keep seats width;
  },
)

pub fresh_wide : (width n : ℕ) → AreWide width (replicate n (0, replicate width 0))
fresh_wide width zero = tt
fresh_wide width (suc n) = (length-replicate width 0, fresh_wide width n)

pub fresh_count : (keep width : ℕ) → length (fresh_units keep width) ≡ keep + 2
fresh_count keep width = ap suc (length-replicate (keep + 1) (0, replicate width 0)) ∙ (let r : suc (keep + 1) ≡ keep + 2 = omega arith in r)

abbrev zeros : ℕ → List ℕ
zeros n = replicate n 0

zeros_more : (m n : ℕ) → zeros m ++ zeros n ≡ zeros (m + n)
zeros_more zero n = ap (λ (k : ℕ). zeros k) (let r : n ≡ 0 + n = omega arith in r)
zeros_more (suc m) n = ap (λ (xs : List ℕ). 0 ∷ xs) (zeros_more m n) ∙ ap (λ (k : ℕ). zeros k) (let r : suc (m + n) ≡ suc m + n = omega arith in r)

zeros_flat : (n width : ℕ) → flat (replicate n (0, zeros width)) ≡ zeros (n * (width + 1))
zeros_flat zero width = ap (λ (k : ℕ). zeros k) (sym (zero-mul (width + 1)))
zeros_flat (suc n) width = ap (λ (xs : List ℕ). 0 ∷ (zeros width ++ xs)) (zeros_flat n width) ∙ ap (λ (xs : List ℕ). 0 ∷ xs) (zeros_more width (n * (width + 1)))
    ∙ ap (λ (k : ℕ). zeros k) (let m = suc-mul n (width + 1) in let r : suc (width + n * (width + 1)) ≡ suc n * (width + 1) = omega arith in r)

-- so many words of 0 are the fresh units side by side
fresh_flat : (keep width : ℕ) → zeros ((keep + 2) * (width + 1)) ≡ flat (fresh_units keep width)
fresh_flat keep width = sym (zeros_flat (suc (keep + 1)) width ∙ ap (λ (k : ℕ). zeros (k * (width + 1))) (let r : suc (keep + 1) ≡ keep + 2 = omega arith in r))

-- and so many places that hold a 0 each, before those that are empty
pub fresh_places : (keep width room : ℕ) → let words : ℕ = (keep + 2) * (width + 1) in let none : Option ℕ = None in
    replicate words (Some 0) ++ replicate (words + (keep + 2) * room - words) none ≡ map Some (flat (fresh_units keep width)) ++ replicate ((keep + 2) * room) none
fresh_places keep width room = let words : ℕ = (keep + 2) * (width + 1) in let m : ℕ = (keep + 2) * room in let none : Option ℕ = None in let left : words + m - words ≡ m = omega arith in
    λ i. (sym (map_same Some words 0) ∙ ap (map Some) (fresh_flat keep width)) i ++ replicate (left i) none
