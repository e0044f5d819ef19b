use Rattle.ring_steps.specs.Checking.{NoneOutOfTurn}
use Rattle.ring_steps.proofs.checking.seat_out_of_turn.Given as goal

abbrev pub invariant-loop-seat : goal.invariant-loop-seat
invariant-loop-seat l = NoneOutOfTurn l.seats l.seat
