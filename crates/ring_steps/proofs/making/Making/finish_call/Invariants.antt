use Rattle.std.proofs.Common.{◌≡◌}
use Rattle.ring_steps.specs.Making.{GoesAlone, calls_left}
use Rattle.ring_steps.specs.Scripts.{calls_of}
use Rattle.ring_steps.proofs.Nearing.{steps_left}
use Rattle.ring_steps.proofs.making.Making.finish_call.Given as goal

abbrev pub invariant-steps : goal.invariant-steps
invariant-steps l = record {
  alone : GoesAlone (calls_of l.script) l.actor l.initial.self l.self;
  same : calls_left (calls_of l.script) l.actor l.self.at ≡ calls_left (calls_of l.script) l.actor l.initial.self.at;
}

abbrev pub decreases-steps : goal.decreases-steps
decreases-steps l = steps_left (calls_of l.script) l.actor l.self.at
