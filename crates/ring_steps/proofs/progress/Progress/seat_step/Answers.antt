use Rattle.std.proofs.Common.{ℕ, ◌+◌, length, sym, subst, arith, ◌<◌, get_or, slice_set}
use Rattle.ring_steps.specs.declared.calls.Actor.TheVariants.{Seat}
use Rattle.ring_steps.specs.declared.calls.SeatCall.TheVariants.{Attach}
use Rattle.ring_steps.specs.Agreeing.{Agrees, GoesOn}
use Rattle.ring_steps.specs.Runs.{At}
use Rattle.ring_steps.specs.Scripts.{calls_of}
use Rattle.ring_steps.proofs.Ready.{one_more, seat_goes, seat_next, seat_ready}
use Rattle.ring_steps.proofs.progress.Progress.seat_step.Goals as goal

pub seat_step-requires-clause-ready : goal.seat_step-requires-clause-ready
seat_step-requires-clause-ready c =
    let calls = calls_of c.args.script.now in
    let at : At = record { ring = c.self.inside.ring; publisher = c.self.inside.publisher; seats = c.self.inside.seats.items } in
    let agrees = subst (λ (a : At). Agrees calls a) (sym c.self.view_is) c.requires.agrees in
    let own = c.index-seats-place.result in
    let n = c.index-next.result.now in
    let below : c.from-place.result < length c.as_slice-seats.result.now = let past = c.if-place-seats.false in omega arith in
    let next = seat_next calls at c.as_slice-seats.result.now c.from-place.result c.args.seat own c.as_slice-calls.result.now n agrees
    c.as_slice-seats.ensures.value c.from-place.ensures below c.index-seats-place.is c.as_slice-calls.ensures c.index-next.ensures c.if-next-calls.false in
    seat_ready calls at c.args.seat own n (get_or c.as_slice-calls.result.now n (Attach 0)) agrees c.requires.good next.0 next.1 next.2

pub returns-clause-goes_on : goal.returns-clause-goes_on
returns-clause-goes_on c =
    let calls = calls_of c.args.script.now in
    let at : At = record { ring = c.self.inside.ring; publisher = c.self.inside.publisher; seats = c.self.inside.seats.items } in
    let agrees = subst (λ (a : At). Agrees calls a) (sym c.self.view_is) c.requires.agrees in
    let own = c.index-seats-place.result in
    let n = c.index-next.result.now in
    let below : c.from-place.result < length c.as_slice-seats.result.now = let past = c.if-place-seats.false in omega arith in
    let next = seat_next calls at c.as_slice-seats.result.now c.from-place.result c.args.seat own c.as_slice-calls.result.now n agrees
    c.as_slice-seats.ensures.value c.from-place.ensures below c.index-seats-place.is c.as_slice-calls.ensures c.index-next.ensures c.if-next-calls.false in
    let call = get_or c.as_slice-calls.result.now n (Attach 0) in
    let stepped = c.in_ok-stepped.stepped in
    let m = n + c.from.result in
    let new : ℕ → At = λ (place : ℕ). record { ring = c.seat_step.new.self; publisher = c.self.inside.publisher; seats = slice_set c.self.inside.seats.items place m } in
    subst (λ (a : At). GoesOn calls a (Seat c.args.seat) (new c.from-place.result) stepped) c.self.view_is
    (subst (λ (place : ℕ). GoesOn calls at (Seat c.args.seat) (new place) stepped) (sym c.from-place.ensures)
    (seat_goes calls at c.args.seat own n call c.seat_step.new.self stepped m next.0 next.1 next.2 c.in_ok-stepped.ensures.step
    (one_more n c.from.result c.is_some.result stepped.answer c.is_some.ensures c.from.ensures)))
