use Rattle.std.proofs.Common.{◌≡◌, ◌++◌, take}
use Rattle.ring_script.specs.TraceText.{event_lines}
use Rattle.ring_script.proofs.printing.put_events.Given as goal

abbrev pub invariant-loop-event : goal.invariant-loop-event
invariant-loop-event l = l.out.items ≡ l.fn.out.items ++ event_lines l.steps (take l.event-index l.events)
