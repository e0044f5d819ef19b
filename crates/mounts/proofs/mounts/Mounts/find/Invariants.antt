use Rattle.std.proofs.Common.{◌≤◌, length}
use Rattle.mounts.proofs.Finding.{AreTried}
use Rattle.mounts.proofs.mounts.Mounts.find.Given as goal

abbrev pub invariant-loop-end : goal.invariant-loop-end
invariant-loop-end l = record {
  within : l.end ≤ length l.path;
  tried : AreTried l.self.mounts l.path l.end;
}

abbrev pub decreases-loop-end : goal.decreases-loop-end
decreases-loop-end l = l.end
