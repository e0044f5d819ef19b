use Rattle.std.proofs.Common.{◌≡◌}
use Rattle.relay_fanout.proofs.sending.gather.gather_held.Given as goal

-- the tap's longest packet stays as it is
abbrev pub invariant-loop : goal.invariant-loop
invariant-loop g l = g.T.Tap.packet_bytes l.tap ≡ g.T.Tap.packet_bytes l.fn.tap
