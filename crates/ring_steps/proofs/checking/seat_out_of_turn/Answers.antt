use Rattle.std.proofs.Common.{ℕ, length, subst, arith, refl}
use Rattle.std.proofs.lemmas.Option.{slice_get_read}
use Rattle.ring_steps.specs.declared.calls.SeatCall.{SeatCall}
use Rattle.std.specs.Prelude.{List}
use Rattle.ring_steps.specs.Scripts.{IsOutOfTurn}
use Rattle.ring_steps.proofs.Checks.{none_more}
use Rattle.ring_steps.proofs.checking.seat_out_of_turn.Goals as goal

pub loop-seat-preserved : goal.loop-seat-preserved
loop-seat-preserved c =
    let seats = c.args.seats.now in
    let own = c.index-seats-seat.result in
    let at = slice_get_read seats (length seats) c.loop-seat.seat own refl c.loop-seat-test.true c.index-seats-seat.is in
    none_more seats c.loop-seat.seat own c.loop-seat.invariant at (subst (λ (xs : List SeatCall). (m : ℕ) → ¬ IsOutOfTurn xs m) c.as_slice.ensures c.in_default.ensures)

pub returns : goal.returns
returns c s own m lt = let past = c.loop-seat-test.false in c.loop-seat.invariant s own m (omega arith)
