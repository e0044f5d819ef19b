use Rattle.std.proofs.Common.{◌≡◌, length, []}
use Rattle.ring_steps.specs.Traces.{Waits}
use Rattle.ring_steps.proofs.tracing.no_packets.Given as goal

abbrev pub invariant-loop : goal.invariant-loop
invariant-loop l = (length l.packets.items ≡ l.counter) × Waits l.packets.items []
