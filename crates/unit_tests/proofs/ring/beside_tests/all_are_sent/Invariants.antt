use Rattle.std.proofs.Common.{◌≡◌}
use Rattle.packet_ring.specs.Views.{seats_of}
use Rattle.unit_tests.proofs.ring.beside_tests.all_are_sent.Given as goal

-- the seat is the one seat of the ring, and stays as it is
abbrev pub invariant-loop-number : goal.invariant-loop-number
invariant-loop-number l = record {
  one : seats_of l.publisher.ring ≡ 1;
  ring : l.publisher.ring ≡ l.fn.publisher.ring;
  same : l.seat ≡ l.fn.seat;
}
