use Rattle.std.proofs.Common.{◌≡◌}
use Rattle.player.proofs.Outgoing.{SoFar}
use Rattle.player.proofs.holding.relay_held_takes.Given as goal

abbrev pub invariant-loop : goal.invariant-loop
invariant-loop g l = record {
  so_far : SoFar g.T.Tap.take_gives l.channels l.fn.tap l.tap (g.W.Sink.written l.fn.writer) (g.W.Sink.written l.writer) l.counter l.sent l.skipped;
  bytes : g.T.Tap.packet_bytes l.tap ≡ g.T.Tap.packet_bytes l.fn.tap;
  working : g.W.Sink.failed l.writer ≡ g.W.Sink.failed l.fn.writer;
}
