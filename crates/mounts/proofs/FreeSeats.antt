-- Seats that are taken and given back.
use Rattle.std.proofs.Common.{◌≡◌, ◌≢◌, ℕ, zero, suc, ◌+◌, ◌<◌, ◌≤◌, Bool, true, false, not, cond, Option, Some, List, [], ◌∷◌, ◌++◌, length, refl, sym, ap, subst, ◌∙◌, arith, slice_get, slice_set, replicate, length-append}
use Rattle.std.specs.List.{AllByRecursion, count_by}
use Rattle.std.specs.Option.{option_to_list}
use Rattle.std.proofs.lemmas.List.Sums.{sum_by-set, sum_by-cons, count_by-le-length}
use Rattle.std.proofs.lemmas.List.Folds.{sum_by-replicate}
use Rattle.std.proofs.lemmas.List.{length-set, length-replicate}
use Rattle.std.proofs.lemmas.Option.{slice_get_within, get_or_from_slice_get}
use Rattle.sdp.proofs.Goods.{push_all, left_all, right_all}
use Rattle.mounts.specs.Different.{AreDifferent}
use Rattle.mounts.specs.Seats.{AreFree}
use Rattle.mounts.proofs.Places.{read_written, read_other, all_both}
use Rattle.mounts.proofs.Differing.{different_push, different_front, different_last}

-- how many are free after a seat was written
count_written : (out : List Bool) (seat : ℕ) (old new : Bool) → slice_get out seat ≡ Some old
    → count_by not (slice_set out seat new) + cond (not old) 1 0 ≡ count_by not out + cond (not new) 1 0
count_written out seat old new at =
    ap (λ b. count_by not (slice_set out seat new) + cond (not b) 1 0) (sym (get_or_from_slice_get out seat old old at))
    ∙ sum_by-set (λ b. cond (not b) 1 0) out seat new old (slice_get_within out seat old at)

-- the others are as they were
others : (out : List Bool) (seat : ℕ) (new : Bool) (free : List ℕ) → AllByRecursion (λ k. slice_get out k ≡ Some false) free → AllByRecursion (λ k. k ≢ seat) free
    → AllByRecursion (λ k. slice_get (slice_set out seat new) k ≡ Some false) free
others out seat new free each apart =
    all_both (λ k. slice_get out k ≡ Some false) (λ k. k ≢ seat) (λ k. slice_get (slice_set out seat new) k ≡ Some false) free
    (λ k at ne. read_other out seat k new ne ∙ at) each apart

-- the last free seat is free
pub last_is_free : (out : List Bool) (rest : List ℕ) (seat room : ℕ) → AreFree out (rest ++ seat ∷ []) room → slice_get out seat ≡ Some false
last_is_free out rest seat room h = (right_all (λ k. slice_get out k ≡ Some false) rest (seat ∷ []) h.each).0

-- the last free seat is taken
pub taken : (out : List Bool) (rest : List ℕ) (seat room : ℕ) → AreFree out (rest ++ seat ∷ []) room → AreFree (slice_set out seat true) rest room
taken out rest seat room h =
    let at = last_is_free out rest seat room h in
    let count = count_written out seat false true at in
    let front = left_all (λ k. slice_get out k ≡ Some false) rest (seat ∷ []) h.each in
    let all = h.all in
    let few = h.few in
    let room_for_all = h.room_for_all in
    record {
      each = others out seat true rest front (different_last rest seat h.once);
      once = different_front rest seat h.once;
      all = omega (arith, count, all, length-append rest (seat ∷ []));
      few = omega (arith, few, length-set {A = Bool});
      room_for_all = omega (arith, room_for_all, length-set {A = Bool});
    }

-- a seat that is out isn't among the free ones
out_is_not_free : (out : List Bool) (seat : ℕ) (free : List ℕ) → slice_get out seat ≡ Some true → AllByRecursion (λ k. slice_get out k ≡ Some false) free → AllByRecursion (λ k. k ≢ seat) free
out_is_not_free out seat [] at each = tt
out_is_not_free out seat (k ∷ free) at each =
    ((λ e. let free_too : slice_get out seat ≡ Some false = subst (λ j. slice_get out j ≡ Some false) e each.0 in absurd (cc)), out_is_not_free out seat free at each.1)

-- where a seat is out, fewer than all are free
pub fewer_free : (out : List Bool) (seat : ℕ) (free : List ℕ) (room : ℕ) → AreFree out free room → slice_get out seat ≡ Some true → length free < room
fewer_free out seat free room h at =
    let count = count_written out seat true false at in
    let most = count_by-le-length not (slice_set out seat false) in
    let all = h.all in
    let room_for_all = h.room_for_all in
    omega (arith, count, most, all, room_for_all, length-set {A = Bool})

-- a seat that is out is given back, and the room is no less
pub given_back : (out : List Bool) (seat : ℕ) (free : List ℕ) (room more : ℕ) → AreFree out free room → room ≤ more → slice_get out seat ≡ Some true
    → AreFree (slice_set out seat false) (free ++ seat ∷ []) more
given_back out seat free room more h grown at =
    let count = count_written out seat true false at in
    let apart = out_is_not_free out seat free at h.each in
    let all = h.all in
    let few = h.few in
    let room_for_all = h.room_for_all in
    record {
      each = push_all (λ k. slice_get (slice_set out seat false) k ≡ Some false) free seat (others out seat false free h.each apart) (read_written out seat true false at);
      once = different_push free seat h.once apart;
      all = omega (arith, count, all, length-append free (seat ∷ []));
      few = omega (arith, few, length-set {A = Bool});
      room_for_all = omega (arith, room_for_all, grown, length-set {A = Bool});
    }

-- where none is free, each is out
pub all_out : (out : List Bool) → count_by not out ≡ 0 → AllByRecursion (λ b. b ≡ true) out
all_out [] none = tt
all_out (true ∷ out) none = (refl, all_out out (omega (arith, none, sum_by-cons (λ b. cond (not b) 1 0) true out)))
all_out (false ∷ out) none = absurd (omega (arith, none, sum_by-cons (λ b. cond (not b) 1 0) false out))

-- each seat of a new mount is free
pub new_is_free : (count seat : ℕ) → seat < count → slice_get (replicate count false) seat ≡ Some false
new_is_free zero seat h = absurd (omega arith)
new_is_free (suc count) zero h = refl
new_is_free (suc count) (suc seat) h = new_is_free count seat (omega arith)

all_new : (count : ℕ) (free : List ℕ) → AllByRecursion (λ k. k < count) free → AllByRecursion (λ k. slice_get (replicate count false) k ≡ Some false) free
all_new count [] h = tt
all_new count (k ∷ free) h = (new_is_free count k h.0, all_new count free h.1)

pub new_are_free : (count : ℕ) (free : List ℕ) (room : ℕ) → count ≤ 1024 → AllByRecursion (λ k. k < count) free → AreDifferent free → length free ≡ count → count ≤ room
    → AreFree (replicate count false) free room
new_are_free count free room few below once len enough =
    let long = length-replicate count false in
    record {
      each = all_new count free below;
      once = once;
      all = sum_by-replicate (λ b. cond (not b) 1 0) count false ∙ omega (arith, len);
      few = omega (arith, few, long);
      room_for_all = omega (arith, enough, long);
    }

-- what is below a number is below the next one, and so is that number
pub below_next : (n : ℕ) (xs : List ℕ) → AllByRecursion (λ k. k < n) xs → AllByRecursion (λ k. k < n + 1) (xs ++ n ∷ [])
below_next n [] h = (omega arith, tt)
below_next n (x ∷ xs) h = let low = h.0 in (omega (arith, low), below_next n xs h.1)

pub below_is_other : (n : ℕ) (xs : List ℕ) → AllByRecursion (λ k. k < n) xs → AllByRecursion (λ k. k ≢ n) xs
below_is_other n [] h = tt
below_is_other n (x ∷ xs) h = let low = h.0 in ((λ e. omega (arith, low, e)), below_is_other n xs h.1)

-- where a seat is free, one is counted
pub some_free : (out : List Bool) (seat : ℕ) → slice_get out seat ≡ Some false → 0 < count_by not out
some_free out seat at = let count = count_written out seat false true at in omega (arith, count)

-- before a seat was popped it was the last of those that are free
pub popped : (out : List Bool) (free rest : List ℕ) (room : ℕ) (last : Option ℕ) (seat same : ℕ) → AreFree out free room → free ≡ rest ++ option_to_list last → last ≡ Some seat
    → same ≡ seat → AreFree out (rest ++ same ∷ []) room
popped out free rest room last seat same h e is as_one =
    subst (λ xs. AreFree out xs room) (e ∙ ap (λ o. rest ++ option_to_list o) is ∙ ap (λ s. rest ++ s ∷ []) (sym as_one)) h
