use Rattle.std.proofs.Common.{◌≡◌, List, length, map, vec_len}
use Rattle.std.specs.Prelude.{All}
use Rattle.ring_steps.specs.Runs.{Turn}
use Rattle.ring_steps.specs.Traces.{IsByOneOf, made_of}
use Rattle.ring_steps.proofs.Telling.{IsTold}
use Rattle.ring_steps.proofs.tracing.trace_of.Given as goal

abbrev pub invariant-loop-last : goal.invariant-loop-last
invariant-loop-last l = record {
  told : (turns : List Turn) → l.fn.made.items ≡ map made_of turns → IsTold turns l.made.items l.steps.items l.events.items l.packets;
  actors : All (IsByOneOf l.seats) l.made.items;
  width : length l.packets ≡ l.seats;
}

abbrev pub decreases-loop-last : goal.decreases-loop-last
decreases-loop-last l = vec_len l.made
