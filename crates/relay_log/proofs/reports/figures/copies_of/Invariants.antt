use Rattle.std.proofs.Common.{◌≡◌, ◌++◌, drop}
use Rattle.relay_log.proofs.reports.figures.copies_of.Given as goal

-- those that are copied, and those that follow, are all
abbrev pub invariant-loop-sums : goal.invariant-loop-sums
invariant-loop-sums l = l.copies.items ++ drop l.sums-index l.named ≡ l.named
