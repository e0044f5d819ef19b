use Rattle.std.proofs.Common.{◌≡◌}
use Rattle.std.specs.Vec.Iter.{into_iter_items, into_iter_len}
use Rattle.ring_script.specs.Scripts.{publisher_calls, all_seats}
use Rattle.ring_script.proofs.Sorting.{Going}
use Rattle.ring_script.proofs.script.script_of.Given as goal

-- the lines handed out so far are sorted
abbrev pub invariant-loop-line : goal.invariant-loop-line
invariant-loop-line l = record {
  going : Going l.fn.lines l.yielded (into_iter_items l.line-iterator) (into_iter_len l.line-iterator);
  publisher : l.publisher.items ≡ publisher_calls l.yielded;
  table : l.seats.items ≡ all_seats l.fn.seats l.yielded;
}
