-- A head, and what is put behind it.
use Rattle.std.proofs.Common.{◌≡◌, ◌∙◌, sym, ap, ℕ, ◌≤◌, List, ◌++◌, length, take, arith}
use Rattle.std.proofs.lemmas.List.{append_assoc, length-append, take-take}
use Rattle.std.proofs.Math.Seq.{take-append_seam}

-- a rest that is appended to a text with a head is appended together with the head
pub then_text : (old mid new head rest : List ℕ) → mid ≡ old ++ head → new ≡ mid ++ rest → new ≡ old ++ (head ++ rest)
then_text old mid new head rest first second = second ∙ (ap (λ (l : List ℕ). l ++ rest) first ∙ append_assoc old head rest)

-- what begins with a text that begins with another begins with that one
pub then_kept : (old mid new head : List ℕ) → mid ≡ old ++ head → take (length mid) new ≡ mid → take (length old) new ≡ old
then_kept old mid new head first kept =
    let long : length old ≤ length mid = omega (arith, ap (λ (l : List ℕ). length l) first, length-append old head) in
    sym (take-take (length old) (length mid) new long)
    ∙ (ap (λ (l : List ℕ). take (length old) l) kept
    ∙ (ap (λ (l : List ℕ). take (length old) l) first
    ∙ take-append_seam old head))

-- what is a text with a head, unchanged, begins with that text
pub then_same : (old mid new head : List ℕ) → mid ≡ old ++ head → new ≡ mid → take (length old) new ≡ old
then_same old mid new head first same = ap (λ (l : List ℕ). take (length old) l) (same ∙ first) ∙ take-append_seam old head
