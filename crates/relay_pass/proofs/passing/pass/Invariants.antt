use Rattle.std.proofs.Common.{◌≡◌, ◌≤◌, ◌<◌, ◌+◌, ◌^◌, length}
use Rattle.cursor.specs.Account.{cursor_of}
use Rattle.packet_ring.specs.Views.{keep_of}
use Rattle.rtsp_message.specs.Intakes.{weight}
use Rattle.publisher.specs.Fates.{total}
use Rattle.relay_pass.specs.Counts.{counted_takes, counts_of}
use Rattle.relay_pass.proofs.KeepingUp.{InStep}
use Rattle.relay_pass.proofs.Passed.{Passed}
use Rattle.relay_pass.proofs.Turns.{InTurns}
use Rattle.relay_pass.proofs.passing.pass.Given as goal

abbrev pub invariant-loop-came : goal.invariant-loop-came
invariant-loop-came g l = record {
  so_far : Passed g.S.Source.incoming g.S.Source.failed l.from l.to l.fn.intake l.intake l.fn.publisher l.publisher l.fn.seat l.seat (g.W.Sink.written l.fn.writer) (g.W.Sink.written l.writer) l.came l.went;
  ring : l.publisher.ring ≡ l.fn.publisher.ring;
  seat_ring : l.seat.ring ≡ l.fn.seat.ring;
  few : total (counts_of l.came) + weight g.S.Source.bound l.intake < 2 ^ 64;
  counted : counted_takes l.went ≤ cursor_of l.seat.account;
  uncut : l.went.cut ≡ 0;
  works : g.W.Sink.failed l.writer ≡ g.W.Sink.failed l.fn.writer;
  step : l.pace.frames ≤ l.pace.takes → cursor_of l.fn.seat.account ≤ length l.fn.publisher.log → InStep l.fn.publisher l.publisher l.fn.seat l.seat;
  kept : l.pace.frames ≤ keep_of l.fn.publisher.ring → l.pace.frames ≤ l.pace.takes → cursor_of l.fn.seat.account ≡ length l.fn.publisher.log → l.went.lost ≡ 0;
  turns : l.pace.takes ≤ l.pace.frames → cursor_of l.fn.seat.account ≤ length l.fn.publisher.log → InTurns l.pace.frames l.pace.takes l.fn.publisher l.publisher l.fn.seat l.seat;
}

abbrev pub decreases-loop-came : goal.decreases-loop-came
decreases-loop-came g l = weight g.S.Source.bound l.intake
