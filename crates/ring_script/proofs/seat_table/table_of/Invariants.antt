use Rattle.std.proofs.Common.{◌≡◌, [], replicate}
use Rattle.ring_script.proofs.seat_table.table_of.Given as goal

abbrev pub invariant-loop : goal.invariant-loop
invariant-loop l = l.table.items ≡ replicate l.counter []
