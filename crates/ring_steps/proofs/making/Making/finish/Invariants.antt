use Rattle.ring_steps.specs.Making.{GoesAlone, calls_left}
use Rattle.ring_steps.specs.Scripts.{calls_of}
use Rattle.ring_steps.proofs.making.Making.finish.Given as goal

abbrev pub invariant-calls : goal.invariant-calls
invariant-calls l = GoesAlone (calls_of l.script) l.actor l.initial.self l.self

abbrev pub decreases-calls : goal.decreases-calls
decreases-calls l = calls_left (calls_of l.script) l.actor l.self.at
