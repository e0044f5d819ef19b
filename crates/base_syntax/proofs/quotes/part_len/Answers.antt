use Rattle.std.proofs.Common.{sym, ◌∙◌}
use Rattle.base_syntax.proofs.Parts.{begins, goes_on}
use Rattle.base_syntax.proofs.quotes.part_len.Goals as goal

pub loop-i-init : goal.loop-i-init
loop-i-init c = begins _ _

pub loop-i-preserved : goal.loop-i-preserved
loop-i-preserved c =
    rw c.is_quoted_after-quoted.ensures (goes_on _ _ _ _ c.loop-i-test.true c.loop-i.invariant (sym c.cuts_here.ensures ∙ c.if-cuts_here.false))
