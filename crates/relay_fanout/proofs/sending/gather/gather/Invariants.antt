use Rattle.std.proofs.Common.{◌≡◌, ◌≤◌, length}
use Rattle.relay_fanout.proofs.sending.gather.gather.Given as goal

-- the buffer has room for the tap's packets, whose longest stays as it is
abbrev pub invariant-loop : goal.invariant-loop
invariant-loop g l = record {
  room : g.T.Tap.packet_bytes l.tap ≤ length l.buf;
  same : g.T.Tap.packet_bytes l.tap ≡ g.T.Tap.packet_bytes l.fn.tap;
}
