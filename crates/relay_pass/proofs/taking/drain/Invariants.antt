use Rattle.std.proofs.Common.{◌≡◌, ◌≤◌, ◌+◌, ◌-◌, length}
use Rattle.cursor.specs.Account.{cursor_of}
use Rattle.packet_ring.specs.Views.{keep_of}
use Rattle.player.specs.declared.report.OutStop.TheVariants as stop
use Rattle.relay_pass.specs.Counts.{counted_takes}
use Rattle.relay_pass.specs.Takes.{TakesMore}
use Rattle.relay_pass.proofs.taking.drain.Given as goal

abbrev pub invariant-loop : goal.invariant-loop
invariant-loop g l = record {
  takes : TakesMore l.to l.fn.seat l.seat (g.W.Sink.written l.fn.writer) (g.W.Sink.written l.writer) l.fn.went l.went stop.Done;
  counted : counted_takes l.went ≤ cursor_of l.seat.account;
  uncut : l.went.cut ≡ 0;
  ring : l.seat.ring ≡ l.publisher.ring;
  on : cursor_of l.fn.seat.account ≤ cursor_of l.seat.account;
  kept : length l.fn.publisher.log ≤ cursor_of l.fn.seat.account + keep_of l.fn.publisher.ring → l.went.lost ≡ l.fn.went.lost;
  same : l.publisher ≡ l.fn.publisher;
  works : g.W.Sink.failed l.writer ≡ g.W.Sink.failed l.fn.writer;
}

abbrev pub decreases-loop : goal.decreases-loop
decreases-loop g l = length l.publisher.log - cursor_of l.seat.account
