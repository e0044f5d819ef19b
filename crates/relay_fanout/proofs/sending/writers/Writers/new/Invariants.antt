use Rattle.std.proofs.Common.{◌≡◌, vec_len}
use Rattle.relay_fanout.proofs.sending.writers.Writers.new.Given as goal

-- so far there are as many lists as writers were counted
abbrev pub invariant-loop : goal.invariant-loop
invariant-loop g l = vec_len l.lists ≡ l.counter
