-- Lines that are counted one after the other, and moments of which the earliest is found.
use Rattle.std.proofs.Common.{◌≡◌, ap, refl, subst, ℕ, zero, suc, ◌<◌, ◌≤◌, ◌+◌, ◌-◌, Bool, List, [], ◌∷◌, length, min, map, take, drop, get_or, arith, nat_eq}
use Rattle.std.specs.Prelude.{Option, None, Some, if◌then◌else◌}
use Rattle.std.specs.List.{starts_with}
use Rattle.std.proofs.Math.Numerals.{add-one}
use Rattle.std.proofs.Math.Seq.{drop-cons}
use Rattle.relay_log.specs.Moments.{sooner_of}
use Rattle.relay_log.specs.Tallies.{earliest}
use Rattle.relay_log.specs.Tracks.{media_lines}

-- no more are taken than there are
take-whole : {T : Type 0} (n : ℕ) (xs : List T) → length xs ≤ n → take n xs ≡ xs
take-whole zero [] all = refl
take-whole (suc n) [] all = refl
take-whole zero (x ∷ xs) all = absurd (omega arith)
take-whole (suc n) (x ∷ xs) all = ap (λ rest. x ∷ rest) (take-whole n xs (omega arith))

drop-whole : {T : Type 0} (n : ℕ) (xs : List T) → length xs ≤ n → drop n xs ≡ []
drop-whole zero [] all = refl
drop-whole (suc n) [] all = refl
drop-whole zero (x ∷ xs) all = absurd (omega arith)
drop-whole (suc n) (x ∷ xs) all = drop-whole n xs (omega arith)

length-rest : {T : Type 0} (n : ℕ) (xs : List T) → length (drop n xs) ≤ length xs - n
length-rest zero xs = omega arith
length-rest (suc n) [] = omega arith
length-rest (suc n) (x ∷ xs) = let rest = length-rest n xs in omega arith

-- the lines from a place on are one more than those from the next one, if a line begins there
lines_from : (text : List ℕ) (k : ℕ) → k < length text → media_lines (drop k text) ≡ (if starts_with nat_eq (drop k text) (10 ∷ 109 ∷ 61 ∷ []) then 1 else 0) + media_lines (drop (suc k) text)
lines_from [] k within = absurd (omega arith)
lines_from (b ∷ text) zero within = refl
lines_from (b ∷ text) (suc k) within = lines_from text k (omega arith)

pub media_step : (text : List ℕ) (k : ℕ) (begins : Bool) → k < length text → starts_with nat_eq (take (length text - k) (drop k text)) (10 ∷ 109 ∷ 61 ∷ []) ≡ begins → media_lines (drop k text) ≡ (if begins then 1 else 0) + media_lines (drop (k + 1) text)
media_step text k begins within is =
    let whole : take (length text - k) (drop k text) ≡ drop k text = take-whole (length text - k) (drop k text) (length-rest k text) in
    let here : starts_with nat_eq (drop k text) (10 ∷ 109 ∷ 61 ∷ []) ≡ begins = subst (λ part. starts_with nat_eq part (10 ∷ 109 ∷ 61 ∷ []) ≡ begins) whole is in
    rw add-one (subst (λ test. media_lines (drop k text) ≡ (if test then 1 else 0) + media_lines (drop (suc k) text)) here (lines_from text k within))

-- of three moments the earliest is the same whichever two are compared first
sooner_of-sooner_of : (a b c : Option ℕ) → sooner_of (sooner_of a b) c ≡ sooner_of a (sooner_of b c)
sooner_of-sooner_of None b c = refl
sooner_of-sooner_of (Some a) None c = refl
sooner_of-sooner_of (Some a) (Some b) None = refl
sooner_of-sooner_of (Some a) (Some b) (Some c) = let same : min (min a b) c ≡ min a (min b c) = omega arith in ap Some same

sooner_of-None : (a : Option ℕ) → sooner_of a None ≡ a
sooner_of-None None = refl
sooner_of-None (Some a) = refl

-- the next one is compared with the earliest before it
pub due_step : {T : Type 0} (due_of : T → Option ℕ) (xs : List T) (k : ℕ) (d : T) (due : Option ℕ) → k < length xs → sooner_of (sooner_of due (due_of (get_or xs k d))) (earliest (map due_of (drop (k + 1) xs))) ≡ sooner_of due (earliest (map due_of (drop k xs)))
due_step due_of xs k d due within =
    rw (add-one, drop-cons xs k d within) (sooner_of-sooner_of due (due_of (get_or xs k d)) (earliest (map due_of (drop (suc k) xs))))

-- after the last one nothing is compared any more
pub due_end : {T : Type 0} (due_of : T → Option ℕ) (xs : List T) (k : ℕ) (due : Option ℕ) → length xs ≤ k → sooner_of due (earliest (map due_of (drop k xs))) ≡ due
due_end due_of xs k due end = rw (drop-whole k xs end) (sooner_of-None due)
