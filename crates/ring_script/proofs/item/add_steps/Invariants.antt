use Rattle.std.proofs.Common.{◌≡◌, ◌++◌, replicate}
use Rattle.ring_script.proofs.item.add_steps.Given as goal

abbrev pub invariant-loop : goal.invariant-loop
invariant-loop l = l.schedule ≡ l.fn.schedule ++ replicate l.counter l.actor
