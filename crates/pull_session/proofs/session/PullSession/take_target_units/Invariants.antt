use Rattle.std.proofs.Common.{◌≡◌}
use Rattle.pull_session.specs.Passing.{ReadsTarget}
use Rattle.pull_session.proofs.session.PullSession.take_target_units.Given as goal

-- the line to the source, the times and the mount stay
abbrev pub invariant-loop-unit : goal.invariant-loop-unit
invariant-loop-unit l = record {
  target : ReadsTarget l.fn.self l.self;
  mount : l.self.mount ≡ l.fn.self.mount;
}
