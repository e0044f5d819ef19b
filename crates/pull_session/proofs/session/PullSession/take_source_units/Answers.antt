use Rattle.std.proofs.Common.{◌∙◌, [], ◌∷◌, ◌++◌, ap, sym, append_assoc}
use Rattle.std.specs.Vec.Iter.{into_iter_items}
use Rattle.pull_session.specs.Passing.{pass_state}
use Rattle.pull_session.specs.declared.line.Line.{Line}
use Rattle.pull_session.proofs.Units.{takes_more}
use Rattle.pull_session.proofs.session.PullSession.take_source_units.Goals as goal

pub loop-unit-preserved : goal.loop-unit-preserved
loop-unit-preserved c = record {
  parts = c.loop-unit.invariant.parts
      ∙ ap (λ rest. c.loop-unit.yielded ++ rest) c.in-Some.ensures.steps.0
      ∙ sym (append_assoc c.loop-unit.yielded (c.in-Some.unit ∷ []) (into_iter_items c.next.new.self));
  takes = takes_more c.loop-unit.yielded c.in-Some.unit c.args.now (pass_state c.args.self.now) (pass_state c.loop-unit.self) (pass_state c.take_source_unit.new.self)
      c.loop-unit.invariant.takes c.take_source_unit.ensures.takes;
  source = c.take_source_unit.ensures.source
      ∙ ap (λ (l : Line). record l { waiting = c.take_source_unit.new.self.source.waiting }) c.loop-unit.invariant.source;
  target = c.take_source_unit.ensures.target
      ∙ ap (λ (l : Line). record l { waiting = c.take_source_unit.new.self.target.waiting }) c.loop-unit.invariant.target;
  mount = c.take_source_unit.ensures.mount ∙ c.loop-unit.invariant.mount;
}
