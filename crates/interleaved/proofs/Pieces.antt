-- A list that is given or written piece by piece.
use Rattle.std.proofs.Common.{◌≡◌, ℕ, ◌+◌, ◌-◌, ◌≤◌, List, ◌++◌, length, take, drop, sym, ap, ◌∙◌, arith, length-drop}
use Rattle.std.proofs.lemmas.List.{take_rest, take_at, length-take-le, take-append-drop, drop-drop}
use Rattle.std.proofs.Math.Seq.{take-add}

-- the first n, and then t of the rest
pub take-of_rest : (bs : List ℕ) (n t : ℕ) → take n bs ++ take t (take (length bs - n) (drop n bs)) ≡ take (n + t) bs
take-of_rest bs n t = ap (λ l. take n bs ++ take t l) (take_rest bs n) ∙ sym (take-add n t bs)

-- the part from g to g + n at the front of a buffer, and then the list from g + n on
pub drop-piece : (bs after : List ℕ) (g n : ℕ) → g + n ≤ length bs → take n (take (g + n - g) (drop g bs) ++ after) ++ drop (g + n) bs ≡ drop g bs
drop-piece bs after g n within =
    let count : g + n - g ≡ n = omega arith in
    let enough : n ≤ length (drop g bs) = omega (arith, length-drop g bs) in
    let piece = take n (drop g bs) in
    let whole : take n (piece ++ after) ≡ piece = take_at piece after n (length-take-le n (drop g bs) enough) in
    ap (λ k. take n (take k (drop g bs) ++ after) ++ drop (g + n) bs) count
    ∙ ap (λ l. l ++ drop (g + n) bs) whole
    ∙ ap (λ l. piece ++ l) (sym (drop-drop n g bs))
    ∙ take-append-drop n (drop g bs)
