use Rattle.std.proofs.Common.{take}
use Rattle.ring_steps.specs.Making.{Goes, nothing_made}
use Rattle.ring_steps.specs.Scripts.{calls_of}
use Rattle.ring_steps.proofs.making.Making.along.Given as goal

abbrev pub invariant-loop-i : goal.invariant-loop-i
invariant-loop-i l = Goes (calls_of l.script) (take l.i l.schedule) (nothing_made l.config) l.making
