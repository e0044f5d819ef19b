use Rattle.std.proofs.Common.{◌≡◌, ◌++◌}
use Rattle.std.specs.Vec.Iter.{into_iter_items}
use Rattle.pull_session.specs.Passing.{TakesUnits, pass_state}
use Rattle.pull_session.proofs.session.PullSession.take_source_units.Given as goal

-- the units handed out so far were taken
abbrev pub invariant-loop-unit : goal.invariant-loop-unit
invariant-loop-unit l = record {
  parts : l.fn.units.items ≡ l.yielded ++ into_iter_items l.unit-iterator;
  takes : TakesUnits l.yielded l.fn.now (pass_state l.fn.self) (pass_state l.self);
  source : l.self.source ≡ record l.fn.self.source { waiting = l.self.source.waiting };
  target : l.self.target ≡ record l.fn.self.target { waiting = l.self.target.waiting };
  mount : l.self.mount ≡ l.fn.self.mount;
}
