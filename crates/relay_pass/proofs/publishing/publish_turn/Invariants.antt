use Rattle.std.proofs.Common.{◌≡◌, ◌≤◌, ◌+◌, length}
use Rattle.rtsp_message.specs.Intakes.{weight}
use Rattle.publisher.specs.Fates.{total}
use Rattle.relay_pass.specs.Counts.{counts_of}
use Rattle.relay_pass.proofs.Handing.{Published}
use Rattle.relay_pass.proofs.publishing.publish_turn.Given as goal

abbrev pub invariant-loop : goal.invariant-loop
invariant-loop g l = record {
  so_far : Published l.from g.S.Source.incoming l.fn.intake l.intake l.fn.publisher l.publisher l.fn.seat l.seat l.fn.came l.came l.counter;
  ring : l.publisher.ring ≡ l.fn.publisher.ring;
  seat_ring : l.seat.ring ≡ l.fn.seat.ring;
  counted : total (counts_of l.came) + weight g.S.Source.bound l.intake ≤ total (counts_of l.fn.came) + weight g.S.Source.bound l.fn.intake;
  turn : weight g.S.Source.bound l.intake + l.counter ≤ weight g.S.Source.bound l.fn.intake;
  most : length l.publisher.log ≤ length l.fn.publisher.log + l.counter;
}
