-- Bytes that are kept and passed on.
use Rattle.std.proofs.Common.{◌≡◌, ◌≤◌, ◌+◌, ◌-◌, ℕ, List, ◌++◌, Option, None, Some, length, take, drop, sym, ap, ◌∙◌, arith, append_assoc, length-drop}
use Rattle.std.proofs.lemmas.List.{drop-take, take-append-drop}
use Rattle.std.proofs.lemmas.List.Edits.{take-paste}
use Rattle.std.specs.List.{copy_within}
use Rattle.std.specs.Io.KnownBytes.{Appends, Keeps, append_known}

-- what is left of the kept bytes, once the first ones have gone and the others stand in their place
pub rest_kept : (items : List ℕ) (gone count : ℕ) → gone ≤ count → count ≤ length items → take (count - gone) (copy_within items gone count 0) ≡ drop gone (take count items)
rest_kept items gone count some within =
    let n = count - gone in
    let whole : gone + n ≡ count = omega arith in
    let none : 0 + n ≡ n = omega arith in
    let enough : n ≤ length (drop gone items) = omega (arith, length-drop gone items) in
    ap (λ k. take k (copy_within items gone count 0)) (sym none)
    ∙ take-paste items 0 (drop gone items) n (omega arith) enough
    ∙ sym (drop-take gone n items)
    ∙ ap (λ k. drop gone (take k items)) whole

-- where the first of the kept bytes went to the inner sink, the same bytes are told
pub told_still : (before after : Option (List ℕ)) (kept rest : List ℕ) (gone : ℕ) → Appends before after (take gone kept) → rest ≡ drop gone kept → Keeps (append_known before kept) (append_known after rest)
told_still None after kept rest gone front is = tt
told_still (Some xs) None kept rest gone front is = front
told_still (Some xs) (Some ys) kept rest gone front is =
    ap (λ l. l ++ rest) front ∙ append_assoc xs (take gone kept) rest ∙ ap (λ l. xs ++ (take gone kept ++ l)) is ∙ ap (λ l. xs ++ l) (take-append-drop gone kept)
