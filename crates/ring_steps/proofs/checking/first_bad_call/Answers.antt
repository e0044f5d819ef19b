use Rattle.std.proofs.Common.{ℕ, List, length, subst}
use Rattle.ring_steps.specs.declared.calls.PublisherCall.{PublisherCall}
use Rattle.ring_steps.specs.declared.calls.SeatCall.{SeatCall}
use Rattle.ring_steps.specs.Checking.{IsFirstOutOfTurn, NoneOutOfTurn}
use Rattle.ring_steps.specs.Scripts.{IsAfterClose, calls_of}
use Rattle.ring_steps.proofs.Checks.{first_of_seat, good_script}
use Rattle.ring_steps.proofs.checking.first_bad_call.Goals as goal

pub returns-in-Some-seat_out_of_turn : goal.returns-in-Some-seat_out_of_turn
returns-in-Some-seat_out_of_turn c =
    let early = subst (λ (xs : List PublisherCall). (m : ℕ) → ¬ IsAfterClose xs m) c.as_slice.ensures.value c.in_default.ensures in
    let seat = c.in-Some-seat_out_of_turn.seat in
    let call = c.in-Some-seat_out_of_turn.call in
    first_of_seat (calls_of c.args.script.now) seat call early
    (subst (λ (xs : List (List SeatCall)). IsFirstOutOfTurn xs seat call) c.as_slice-2.ensures.value c.in-Some-seat_out_of_turn.ensures)

pub returns-in-None : goal.returns-in-None
returns-in-None c =
    let early = subst (λ (xs : List PublisherCall). (m : ℕ) → ¬ IsAfterClose xs m) c.as_slice.ensures.value c.in_default.ensures in
    good_script (calls_of c.args.script.now) early
    (subst (λ (xs : List (List SeatCall)). NoneOutOfTurn xs (length xs)) c.as_slice-2.ensures.value c.in-None.ensures)
