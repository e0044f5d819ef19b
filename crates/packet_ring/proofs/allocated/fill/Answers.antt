use Rattle.std.proofs.Common.{◌≡◌, ◌+◌, ◌-◌, ◌<◌, ◌++◌, replicate, set, Some, None, ℕ, suc, List, Option, ap, ◌∙◌, arith}
use Rattle.packet_ring.proofs.Grounds.{one_changed}
use Rattle.packet_ring.proofs.allocated.fill.Goals as goal

pub loop-i-preserved : goal.loop-i-preserved
loop-i-preserved c = let so = c.loop-i.invariant in let w = c.write.ensures in let i : ℕ = c.loop-i.i in let n : ℕ = c.args.all in let test : i < c.args.words = c.loop-i-test.true in let within = c.requires.2 in let full : Option ℕ = Some 0 in let none : Option ℕ = None in
    let left : n - i ≡ suc (n - (i + 1)) = omega arith in let next : suc i ≡ i + 1 = omega arith in (
      omega arith,
      w.0 ∙ so.1,
      w.1 ∙ ap (λ (cs : List (Option ℕ)). set cs i full) so.2 ∙ ap (λ (k : ℕ). set (replicate i full ++ replicate k none) i full) left ∙ one_changed full none i (n - (i + 1)) ∙ ap (λ (k : ℕ). replicate k full ++ replicate (n - (i + 1)) none) next,
    )
