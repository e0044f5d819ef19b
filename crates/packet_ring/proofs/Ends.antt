-- A log with its end, and what was seen of it.
use Rattle.std.proofs.Common.{◌≡◌, ℕ, zero, suc, ◌<◌, ◌≤◌, Bool, true, false, List, [], ◌∷◌, ◌++◌, length, get_or, refl, sym, ap, ◌∙◌, subst, arith, Some, length-append}
use Rattle.std.specs.Prelude.{slice_get}
use mathlib.Core.Logic.{dite}
use mathlib.Core.List.{IsPrefix, cons≢nil}
use native.Mathlib.Decide.{dec_lt}
use Rattle.packet_ring.specs.Rule.{with_end}
use Rattle.packet_ring.specs.Steps.{HasSeen, ends_at}

abbrev Log : Type 0
Log = List (List ℕ)

get_before : (xs more : Log) (n : ℕ) (p : List ℕ) → slice_get xs n ≡ Some p → slice_get (xs ++ more) n ≡ Some p
get_before [] more n p at = absurd (cc)
get_before (x ∷ xs) more zero p at = at
get_before (x ∷ xs) more (suc n) p at = get_before xs more n p at

get_after : (xs more : Log) (n : ℕ) (p : List ℕ) → n < length xs → slice_get (xs ++ more) n ≡ Some p → slice_get xs n ≡ Some p
get_after [] more n p l at = absurd (omega arith)
get_after (x ∷ xs) more zero p l at = at
get_after (x ∷ xs) more (suc n) p l at = get_after xs more n p (omega arith) at

pub get_with_end : (b : Bool) (log : Log) (n : ℕ) (p : List ℕ) → slice_get log n ≡ Some p → slice_get (with_end b log) n ≡ Some p
get_with_end false log n p at = at
get_with_end true log n p at = get_before log ([] ∷ []) n p at

pub get_without_end : (b : Bool) (log : Log) (n : ℕ) (p : List ℕ) → n < length log → slice_get (with_end b log) n ≡ Some p → slice_get log n ≡ Some p
get_without_end false log n p l at = at
get_without_end true log n p l at = get_after log ([] ∷ []) n p l at

-- ---- places
or_before : (xs more : Log) (n : ℕ) → n < length xs → get_or (xs ++ more) n [] ≡ get_or xs n []
or_before [] more n l = absurd (omega arith)
or_before (x ∷ xs) more zero l = refl
or_before (x ∷ xs) more (suc n) l = or_before xs more n (omega arith)

pub or_prefix : (xs ys : Log) (n : ℕ) → IsPrefix xs ys → n < length xs → get_or ys n [] ≡ get_or xs n []
or_prefix xs ys n pre l = ap (λ (zs : Log). get_or zs n []) (sym pre.1) ∙ or_before xs pre.0 n l

pub last_of : (log : Log) (p : List ℕ) → get_or (log ++ p ∷ []) (length log) [] ≡ p
last_of [] p = refl
last_of (x ∷ log) p = last_of log p

at_end : (log : Log) → get_or (log ++ [] ∷ []) (length log) [] ≡ []
at_end [] = refl
at_end (x ∷ log) = at_end log

past_end : (log : Log) → get_or log (length log) [] ≡ []
past_end [] = refl
past_end (x ∷ log) = past_end log

no_packet : (b : Bool) (log : Log) → get_or (with_end b log) (length log) [] ≡ []
no_packet false log = past_end log
no_packet true log = at_end log

pub ends_with : (b : Bool) (log : Log) → ends_at (with_end b log) (length log) ≡ b
ends_with false [] = refl
ends_with true [] = refl
ends_with false (x ∷ log) = (ends_more x log (length log)) ∙ ends_with false log
  where
    ends_more : (y : List ℕ) (ys : Log) (k : ℕ) → ends_at (y ∷ ys) (suc k) ≡ ends_at ys k
    ends_more [] ys k = refl
    ends_more (b ∷ y) ys k = refl
ends_with true (x ∷ log) = (ends_more x (log ++ [] ∷ []) (length log)) ∙ ends_with true log
  where
    ends_more : (y : List ℕ) (ys : Log) (k : ℕ) → ends_at (y ∷ ys) (suc k) ≡ ends_at ys k
    ends_more [] ys k = refl
    ends_more (b ∷ y) ys k = refl

-- an end stands at a place that is there, and has no packet
record Ended (xs : Log) (k : ℕ) : Type 0 where
  there : k < length xs
  empty : get_or xs k [] ≡ []

ended : (xs : Log) (k : ℕ) → ends_at xs k ≡ true → Ended xs k
ended [] k e = absurd (cc)
ended ([] ∷ xs) zero e = record { there = (omega arith); empty = refl }
ended ((b ∷ p) ∷ xs) zero e = absurd (cc)
ended ([] ∷ xs) (suc k) e = let r = ended xs k e in let t = r.there in record { there = omega arith; empty = r.empty }
ended ((b ∷ p) ∷ xs) (suc k) e = let r = ended xs k e in let t = r.there in record { there = omega arith; empty = r.empty }

still_ends : (xs more : Log) (k : ℕ) → ends_at xs k ≡ true → ends_at (xs ++ more) k ≡ true
still_ends [] more k e = absurd (cc)
still_ends ([] ∷ xs) more zero e = refl
still_ends ((b ∷ p) ∷ xs) more zero e = absurd (cc)
still_ends ([] ∷ xs) more (suc k) e = still_ends xs more k e
still_ends ((b ∷ p) ∷ xs) more (suc k) e = still_ends xs more k e

pub ends_on : (xs ys : Log) (k : ℕ) → IsPrefix xs ys → ends_at xs k ≡ true → ends_at ys k ≡ true
ends_on xs ys k pre e = ap (λ (zs : Log). ends_at zs k) (sym pre.1) ∙ still_ends xs pre.0 k e

pub longer : (xs ys : Log) → IsPrefix xs ys → length xs ≤ length ys
longer xs ys pre = let a = length-append xs pre.0 in let e : length (xs ++ pre.0) ≡ length ys = ap length pre.1 in omega arith

-- packets that were seen stay seen
pub seen_on : (xs ys : Log) (k : ℕ) → IsPrefix xs ys → HasSeen k xs → HasSeen k ys
seen_on xs ys k pre has = let far = longer xs ys pre in let in_xs = has.within in record { within = omega arith; full = λ n l. subst (λ (p : List ℕ). 1 ≤ length p) (sym (or_prefix xs ys n pre (omega arith))) (has.full n l) }

pub fewer_seen : (xs : Log) (k m : ℕ) → k ≤ m → HasSeen m xs → HasSeen k xs
fewer_seen xs k m le has = let in_xs = has.within in record { within = omega arith; full = λ n l. has.full n (omega arith) }

pub log_seen : (b : Bool) (log : Log) → ((n : ℕ) → n < length log → 1 ≤ length (get_or log n [])) → HasSeen (length log) (with_end b log)
log_seen false log full = record { within = omega arith; full = full }
log_seen true log full = let a = length-append log ([] ∷ []) in record { within = omega arith; full = λ n l. subst (λ (p : List ℕ). 1 ≤ length p) (sym (or_before log ([] ∷ []) n l)) (full n l) }

nothing_full : (p : List ℕ) → p ≡ [] → 1 ≤ length p → ⊥
nothing_full [] e l = absurd (omega arith)
nothing_full (b ∷ p) e l = absurd (cons≢nil e)

-- no more packets were seen than the log has
pub seen_within : (xs : Log) (b : Bool) (log : Log) (k : ℕ) → IsPrefix xs (with_end b log) → HasSeen k xs → k ≤ length log
seen_within xs b log k pre has = dite (dec_lt (length log) k)
    (λ more. let in_xs = has.within in absurd (nothing_full (get_or xs (length log) []) (sym (or_prefix xs (with_end b log) (length log) pre (omega arith)) ∙ no_packet b log) (has.full (length log) more)))
    (λ less. omega arith)

-- a log that was seen to its end has no packet more
pub ended_within : (xs ys : Log) (k n : ℕ) → IsPrefix xs ys → ends_at xs k ≡ true → HasSeen n ys → n ≤ k
ended_within xs ys k n pre e has = let at = ended xs k e in let there = at.there in dite (dec_lt k n)
    (λ more. absurd (nothing_full (get_or ys k []) (or_prefix xs ys k pre (omega arith) ∙ at.empty) (has.full k more)))
    (λ less. omega arith)
