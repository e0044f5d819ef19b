use Rattle.std.proofs.Common.{◌≡◌, length}
use Rattle.relay_log.proofs.reports.figures.figures_of_mounts.Given as goal

-- each mount before this one has its figures
abbrev pub invariant-loop-mount : goal.invariant-loop-mount
invariant-loop-mount g l = length l.figures.items ≡ l.mount-index
