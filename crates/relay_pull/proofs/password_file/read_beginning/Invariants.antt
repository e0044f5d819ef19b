use Rattle.std.proofs.Common.{◌≤◌}
use Rattle.relay_pull.proofs.password_file.read_beginning.Given as goal

abbrev pub invariant-loop : goal.invariant-loop
invariant-loop g l = l.len ≤ 1024
