-- Where the items of a list are after it is turned.
use Rattle.std.proofs.Common.{◌≡◌, ◌∙◌, ap, refl, ℕ, zero, suc, ◌<◌, ◌≤◌, ◌+◌, ◌-◌, List, [], ◌∷◌, ◌++◌, length, take, drop, arith}
use Rattle.std.specs.List.{slice_get}
use Rattle.std.proofs.lemmas.List.{length-drop}
use Rattle.relay_log.specs.Orders.{ComesBefore, untold_first}

get-append : {T : Type 0} (xs ys : List T) (k : ℕ) → k < length xs → slice_get (xs ++ ys) k ≡ slice_get xs k
get-append [] ys k within = absurd (omega arith)
get-append (x ∷ xs) ys zero within = refl
get-append (x ∷ xs) ys (suc k) within = get-append xs ys k (omega arith)

get-append-add : {T : Type 0} (xs ys : List T) (k : ℕ) → slice_get (xs ++ ys) (length xs + k) ≡ slice_get ys k
get-append-add [] ys k = let at : 0 + k ≡ k = omega arith in ap (slice_get ys) at
get-append-add (x ∷ xs) ys k = let at : suc (length xs) + k ≡ suc (length xs + k) = omega arith in ap (slice_get (x ∷ (xs ++ ys))) at ∙ get-append-add xs ys k

get-drop : {T : Type 0} (n : ℕ) (xs : List T) (k : ℕ) → slice_get (drop n xs) k ≡ slice_get xs (n + k)
get-drop zero xs k = let at : k ≡ 0 + k = omega arith in ap (slice_get xs) at
get-drop (suc n) [] k = refl
get-drop (suc n) (x ∷ xs) k = let at : suc (n + k) ≡ suc n + k = omega arith in get-drop n xs k ∙ ap (slice_get (x ∷ xs)) at

get-take : {T : Type 0} (n : ℕ) (xs : List T) (k : ℕ) → k < n → slice_get (take n xs) k ≡ slice_get xs k
get-take zero xs k before = absurd (omega arith)
get-take (suc n) [] k before = refl
get-take (suc n) (x ∷ xs) zero before = refl
get-take (suc n) (x ∷ xs) (suc k) before = get-take n xs k (omega arith)

-- an item from the place on comes before one that was before it
pub told_last : {T : Type 0} (end : ℕ) (list : List T) (untold told : ℕ) → end ≤ untold → untold < length list → told < end → ComesBefore (untold_first end list) (slice_get list untold) (slice_get list told)
told_last end list untold told from within before =
    let rest : length (drop end list) ≡ length list - end = length-drop end list in
    let at : end + (untold - end) ≡ untold = omega arith in
    record {
      place = untold - end;
      later = length (drop end list) + told;
      order = omega arith;
      has_first = get-append (drop end list) (take end list) (untold - end) (omega arith) ∙ get-drop end list (untold - end) ∙ ap (slice_get list) at;
      has_second = get-append-add (drop end list) (take end list) told ∙ get-take end list told before;
    }
