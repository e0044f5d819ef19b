use Rattle.std.proofs.Common.{◌≡◌, ◌≢◌, ◌+◌, length, rules, sym, subst, arith}
use Rattle.ring_steps.specs.declared.calls.Actor.{Actor}
use Rattle.ring_steps.specs.declared.calls.Actor.TheVariants.{P, Seat}
use Rattle.ring_steps.specs.Making.{SoFar, in_turn}
use Rattle.ring_steps.specs.Scripts.{calls_of}
use Rattle.ring_steps.proofs.Others.{OthersSoFar, others_finish, others_first, others_more, others_past, others_without}
use Rattle.ring_steps.proofs.RunningOut.{goes_sound}
use Rattle.ring_steps.proofs.making.Making.finish_others.Goals.{then-ne+in_ok-finish, else-ne, then-ne-2+in_ok-finish-2, else-ne-2}
use Rattle.ring_steps.proofs.making.Making.finish_others.Goals as goal

pub loop-seat-init : goal.loop-seat-init
loop-seat-init c =
    let calls = calls_of c.args.script.now in
    let stopped = c.args.stopped in
    let old = c.args.self.now in
    elim c.if-ne.branch [
      | then-ne+in_ok-finish w ↦
          let other : P ≢ stopped = search rules in
          let finished = w.in_ok-finish.ensures in
          subst (λ (so : SoFar). OthersSoFar calls stopped 0 old so) (sym w.self-is) (others_first calls stopped old w.finish.new.self other finished.goes finished.none)
      | else-ne w ↦
          let is : P ≡ stopped = search rules in
          subst (λ (so : SoFar). OthersSoFar calls stopped 0 old so) (sym w.self-is) (subst (λ (a : Actor). OthersSoFar calls a 0 old old) is (others_without calls old))
    ]

pub finish-requires-then-ne-2-clause-sound : goal.finish-requires-then-ne-2-clause-sound
finish-requires-then-ne-2-clause-sound c =
    let so = c.loop-seat.invariant in
    goes_sound (calls_of c.args.script.now) (in_turn so.publisher so.seats) c.args.self.now c.loop-seat.self c.requires.sound so.goes

pub loop-seat-preserved : goal.loop-seat-preserved
loop-seat-preserved c =
    let calls = calls_of c.args.script.now in
    let stopped = c.args.stopped in
    let seat = c.loop-seat.seat in
    let old = c.args.self.now in
    elim c.if-ne-2.branch [
      | then-ne-2+in_ok-finish-2 w ↦
          let other : Seat seat ≢ stopped = search rules in
          let finished = w.in_ok-finish-2.ensures in
          subst (λ (so : SoFar). OthersSoFar calls stopped (seat + 1) old so) (sym w.self-is)
          (others_more calls stopped seat old c.loop-seat.self w.finish-then-ne-2.new.self other c.loop-seat.invariant finished.goes finished.none)
      | else-ne-2 w ↦
          let is : Seat seat ≡ stopped = search rules in
          subst (λ (so : SoFar). OthersSoFar calls stopped (seat + 1) old so) (sym w.self-is) (others_past calls stopped seat old c.loop-seat.self is c.loop-seat.invariant)
    ]

pub returns : goal.returns
returns c =
    let least = c.loop-seat-test.false in
    let most = c.loop-seat.auto.seat-end in
    let len = c.len-seat-end.ensures in
    let few = c.requires.seats in
    let all : c.loop-seat.seat ≡ length (calls_of c.args.script.now).seats = omega arith in
    others_finish (calls_of c.args.script.now) c.args.stopped c.loop-seat.seat c.args.self.now c.loop-seat.self all c.loop-seat.invariant
