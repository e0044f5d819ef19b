-- Sums that stay at 2^64 - 1.
use Rattle.std.proofs.Common.{◌≡◌, ℕ, ◌+◌, ◌-◌, ◌^◌, ◌≤◌, ◌∙◌, List, [], ◌∷◌, refl, ap, arith}
use Rattle.std.specs.Prelude.{fold, sum_by}
use Prim.Native.Nat.{min}
use Rattle.std.proofs.lemmas.List.Sums.{sum_by_from}
use Rattle.relay_accounts.specs.declared.handover.WaitingFrame.{WaitingFrame}

-- a sum that is capped before its last step is that which is capped after it
capped_once : (count more : ℕ) → min (min count (2 ^ 64 - 1) + more) (2 ^ 64 - 1) ≡ min (count + more) (2 ^ 64 - 1)
capped_once count more = omega arith

-- a sum that is capped at each step is that which is capped once
capped_steps : (frames : List WaitingFrame) (bytes : ℕ) → fold (λ sum frame. min (sum + frame.bytes) (2 ^ 64 - 1)) (min bytes (2 ^ 64 - 1)) frames ≡ min (fold (λ sum frame. sum + frame.bytes) bytes frames) (2 ^ 64 - 1)
capped_steps [] bytes = refl
capped_steps (frame ∷ frames) bytes =
    ap (λ (start : ℕ). fold (λ sum frame. min (sum + frame.bytes) (2 ^ 64 - 1)) start frames) (capped_once bytes frame.bytes)
    ∙ capped_steps frames (bytes + frame.bytes)

pub capped_sum : (frames : List WaitingFrame) (bytes : ℕ) → bytes ≤ 2 ^ 64 - 1 → fold (λ sum frame. min (sum + frame.bytes) (2 ^ 64 - 1)) bytes frames ≡ min (bytes + sum_by (λ frame. frame.bytes) frames) (2 ^ 64 - 1)
capped_sum frames bytes within =
    let start : bytes ≡ min bytes (2 ^ 64 - 1) = omega (arith, within) in
    ap (λ (start : ℕ). fold (λ sum frame. min (sum + frame.bytes) (2 ^ 64 - 1)) start frames) start
    ∙ capped_steps frames bytes
    ∙ ap (λ (sum : ℕ). min sum (2 ^ 64 - 1)) (sum_by_from (λ (frame : WaitingFrame). frame.bytes) bytes frames)
