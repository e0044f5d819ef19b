use Rattle.std.proofs.Common.{◌≡◌, ◌++◌}
use Rattle.session_state.proofs.world.copy_connections.Given as goal

-- those so far are copied
abbrev pub invariant-loop-conn : goal.invariant-loop-conn
invariant-loop-conn l = l.copied.entries ++ l.conn-iterator ≡ l.connections.entries
