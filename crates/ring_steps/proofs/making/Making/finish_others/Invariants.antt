use Rattle.ring_steps.specs.Scripts.{calls_of}
use Rattle.ring_steps.proofs.Others.{OthersSoFar}
use Rattle.ring_steps.proofs.making.Making.finish_others.Given as goal

abbrev pub invariant-loop-seat : goal.invariant-loop-seat
invariant-loop-seat l = OthersSoFar (calls_of l.script) l.stopped l.seat l.fn.self l.self
