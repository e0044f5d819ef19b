use Rattle.std.proofs.Common.{◌∷◌, [], length, length-append, refl, sym, ap, ◌∙◌, arith}
use Rattle.packet_ring.specs.Views.{Publishing, Subscribing}
use Rattle.player.specs.declared.report.OutStop.TheVariants as out_stop
use Rattle.relay_pass.specs.declared.report.TakeCounts.{TakeCounts}
use Rattle.relay_pass.specs.declared.report.PassReport.{PassReport}
use Rattle.relay_pass.specs.declared.report.PassStop.{PassStop}
use Rattle.relay_pass.specs.declared.report.StreamEnd.TheVariants as stream
use Rattle.relay_pass.specs.Counts.{stop_of}
use Rattle.relay_pass.proofs.Handing.{all-grew}
use Rattle.relay_pass.proofs.Endings.{Finished, finished-failed, stop-failed, takes-went-on, uncut-on}
use Rattle.relay_pass.proofs.KeepingUp.{learned-account, never-pinned, never-unkept, none-in-step, none-waits, turn-few, turn-in-step, turn-ring, turn-seat-ring}
use Rattle.relay_pass.proofs.Passed.{none-passed, passed-frames, passed-takes, turn-passes}
use Rattle.relay_pass.proofs.Settling.{led-adds, led-on, led-takes}
use Rattle.relay_pass.proofs.Turns.{none-in-turns, passed-grew, passed-in-turns, turn-in-turns}
use Rattle.cursor.specs.Account.{cursor_of}
use Rattle.relay_pass.proofs.Takings.{frames-count, takes-more}
use Rattle.relay_pass.proofs.passing.pass.Goals as goal

pub loop-came-init : goal.loop-came-init
loop-came-init g c =
    let learned = c.learn_published.ensures.learns in
    let account = ap (λ (s : Subscribing). s.account) learned.same in
    rw c.learn_published.ensures.same (record {
      so_far = none-passed g.S.Source.incoming g.S.Source.failed c.args.from.now c.args.to.now c.args.intake.now c.args.publisher.now c.args.seat.now c.learn_published.new.seat _ c.new-came.result c.new-went.result
          c.new-came.ensures c.new-went.ensures learned (rw c.learn_published.ensures.same at c.learn_published.ensures.whole);
      ring = refl;
      seat_ring = ap (λ (s : Subscribing). s.ring) learned.same;
      few = omega (arith, c.left-most.ensures.value, c.left-most.type_inv, c.new-came.ensures.all);
      counted = rw c.new-went.ensures (omega arith);
      uncut = ap (λ (t : TakeCounts). t.cut) c.new-went.ensures;
      works = refl;
      step = λ enough at. none-in-step c.args.publisher.now c.args.seat.now c.learn_published.new.seat account;
      kept = λ few enough at. ap (λ (t : TakeCounts). t.lost) c.new-went.ensures;
      turns = λ few at. none-in-turns c.args.pace.frames c.args.pace.takes c.args.publisher.now c.args.seat.now c.learn_published.new.seat account;
    })

pub take_turn-requires-clause-ring : goal.take_turn-requires-clause-ring
take_turn-requires-clause-ring g c =
    let h = c.publish_turn-ended.ensures.publishes in
    ap (λ (s : Subscribing). s.ring) h.learns.learns.same ∙ c.loop-came.invariant.seat_ring ∙ c.requires.ring
    ∙ sym ((all-grew c.args.from.now h.handlings _ _ h.met.meets).ring ∙ c.loop-came.invariant.ring)

pub returns-in-WriteFailed-clause-passes : goal.returns-in-WriteFailed-clause-passes
returns-in-WriteFailed-clause-passes g c =
    let takes = rw c.in-WriteFailed.is at c.take_turn.ensures.takes in
    let within = rw c.take_turn.ensures.same at c.take_turn.ensures.published.0 in
    rw c.take_turn.ensures.same
    (turn-passes g.S.Source.incoming g.S.Source.failed c.args.from.now c.args.to.now _ _ _ _ _ _ _ _ _ _ _ _ _ _ _ _ _ out_stop.WriteFailed
    c.loop-came.invariant.so_far c.publish_turn-ended.ensures.publishes takes within c.take_turn.ensures.within c.requires.ring stream.End _ refl (finished-failed _ _ _ _ stream.End))

pub returns-in-WriteFailed-clause-never_pinned : goal.returns-in-WriteFailed-clause-never_pinned
returns-in-WriteFailed-clause-never_pinned g c = never-pinned _ _ _ _ _ _ _ (returns-in-WriteFailed-clause-passes g c).came

pub returns-in-WriteFailed-clause-never_unkept : goal.returns-in-WriteFailed-clause-never_unkept
returns-in-WriteFailed-clause-never_unkept g c = never-unkept _ _ _ _ _ _ _ (returns-in-WriteFailed-clause-passes g c).came

pub returns-in-WriteFailed-clause-kept_up : goal.returns-in-WriteFailed-clause-kept_up
returns-in-WriteFailed-clause-kept_up g c few enough at =
    let so = c.loop-came.invariant.step enough (omega (arith, at)) in
    let up = none-waits c.args.publisher.now c.loop-came.publisher c.args.seat.now c.loop-came.seat so at in
    let kept = c.loop-came.invariant.kept few enough at in
    let h = c.publish_turn-ended.ensures.publishes in
    c.take_turn.ensures.kept (turn-few _ _ _ _ _ _ _ _ _ _ h c.args.publisher.now.ring c.args.pace.frames c.loop-came.invariant.ring few up c.publish_turn-ended.ensures.most) ∙ kept

pub returns-in-WriteFailed-clause-in_step : goal.returns-in-WriteFailed-clause-in_step
returns-in-WriteFailed-clause-in_step g c enough at =
    let so = c.loop-came.invariant.step enough at in
    let h = c.publish_turn-ended.ensures.publishes in
    let takes = rw c.in-WriteFailed.is at c.take_turn.ensures.takes in
    let led = led-takes _ _ _ takes.run in
    let on = led-adds _ takes.answers _ led in
    let cut = takes.out in
    let there = ap cursor_of (learned-account _ _ _ _ h.learns) in
    let most = c.publish_turn-ended.ensures.most in
    rw c.take_turn.ensures.same (omega (arith, so, on, there, most, frames-count c.args.to.now takes.answers, ap length cut.frames_are, length-append cut.whole (cut.last ∷ [])))

pub returns-in-WriteFailed-clause-in_turns : goal.returns-in-WriteFailed-clause-in_turns
returns-in-WriteFailed-clause-in_turns g c few at =
    let learned = c.publish_turn-ended.ensures.publishes.learns in
    let there = ap cursor_of (learned-account _ _ _ _ learned) in
    let led = led-takes _ _ _ c.take_turn.ensures.takes.run in
    passed-in-turns _ _ _ _ _ _ _ c.loop-came.publisher _ _ c.loop-came.seat _ _ _ _ c.args.pace.frames c.args.pace.takes (returns-in-WriteFailed-clause-passes g c) (c.loop-came.invariant.turns few at)
    (rw c.take_turn.ensures.same c.publish_turn-ended.ensures.most) (omega (arith, there, led-on _ _ _ led))

pub drain-out-requires : goal.drain-out-requires
drain-out-requires g c =
    let h = c.publish_turn-ended.ensures.publishes in
    let led = led-takes _ _ _ c.take_turn.ensures.takes.run in
    record {
      ring =
          led.ring ∙ turn-seat-ring _ _ _ _ _ _ _ _ _ _ h ∙ c.loop-came.invariant.seat_ring ∙ c.requires.ring ∙ sym (turn-ring _ _ _ _ _ _ _ _ _ _ h ∙ c.loop-came.invariant.ring)
          ∙ ap (λ (p : Publishing). p.ring) (sym c.take_turn.ensures.same);
      some = c.requires.pace.1;
      counted = c.take_turn.ensures.counted;
      uncut = uncut-on _ _ _ _ _ _ _ _ c.in_default.not-WriteFailed c.take_turn.ensures.takes;
    }

pub returns-in-Some-clause-passes : goal.returns-in-Some-clause-passes
returns-in-Some-clause-passes g c =
    let takes = takes-more _ _ _ _ _ _ _ _ _ _ _ (takes-went-on _ _ _ _ _ _ _ _ c.in_default.not-WriteFailed c.take_turn.ensures.takes) c.drain-out.ensures.takes in
    let within = rw (c.drain-out.ensures.same, c.take_turn.ensures.same) at c.drain-out.ensures.published.0 in
    let ended = rw c.in-Some.is at c.publish_turn-ended.ensures.ended in
    let finished : Finished g.S.Source.incoming g.S.Source.failed c.publish_turn-ended.new.intake c.drain-out.new.seat c.in-Some.end c.drain-out.result = record {
      ended = λ ok. ended;
      empty = c.drain-out.ensures.empty;
      not_done = λ ok. c.drain-out.ensures.ends.1;
      not_ended = c.drain-out.ensures.ends.0;
    } in
    rw (c.drain-out.ensures.same, c.take_turn.ensures.same)
    (turn-passes g.S.Source.incoming g.S.Source.failed c.args.from.now c.args.to.now _ _ _ _ _ _ _ _ _ _ _ _ _ _ _ _ _ c.drain-out.result
    c.loop-came.invariant.so_far c.publish_turn-ended.ensures.publishes takes within c.drain-out.ensures.within c.requires.ring c.in-Some.end _
    (ap (λ (st : PassStop). let r : PassReport = record { came = c.publish_turn-ended.new.came; went = c.drain-out.new.went; stop = st } in r) c.new.ensures) finished)

pub returns-in-Some-clause-never_pinned : goal.returns-in-Some-clause-never_pinned
returns-in-Some-clause-never_pinned g c = never-pinned _ _ _ _ _ _ _ (returns-in-Some-clause-passes g c).came

pub returns-in-Some-clause-never_unkept : goal.returns-in-Some-clause-never_unkept
returns-in-Some-clause-never_unkept g c = never-unkept _ _ _ _ _ _ _ (returns-in-Some-clause-passes g c).came

pub returns-in-Some-clause-kept_up : goal.returns-in-Some-clause-kept_up
returns-in-Some-clause-kept_up g c few enough at =
    let so = c.loop-came.invariant.step enough (omega (arith, at)) in
    let up = none-waits c.args.publisher.now c.loop-came.publisher c.args.seat.now c.loop-came.seat so at in
    let kept = c.loop-came.invariant.kept few enough at in
    let h = c.publish_turn-ended.ensures.publishes in
    let first = c.take_turn.ensures.kept (turn-few _ _ _ _ _ _ _ _ _ _ h c.args.publisher.now.ring c.args.pace.frames c.loop-came.invariant.ring few up c.publish_turn-ended.ensures.most) in
    let now = turn-in-step c.args.to.now c.args.pace.frames c.args.pace.takes c.args.publisher.now c.loop-came.publisher c.publish_turn-ended.new.publisher c.args.seat.now c.loop-came.seat c.publish_turn-ended.new.seat c.take_turn.new.seat _ _ _ _ _
    (omega (arith, at)) so c.publish_turn-ended.ensures.most enough
    h.learns c.loop-came.invariant.so_far.whole c.take_turn.ensures.takes c.in_default.not-WriteFailed c.take_turn.ensures.open c.take_turn.ensures.done c.take_turn.ensures.empty in
    c.drain-out.ensures.kept (rw c.take_turn.ensures.same (omega (arith, now, at))) ∙ first ∙ kept

pub returns-in-Some-clause-in_step : goal.returns-in-Some-clause-in_step
returns-in-Some-clause-in_step g c enough at =
    let so = c.loop-came.invariant.step enough at in
    let h = c.publish_turn-ended.ensures.publishes in
    let now = turn-in-step c.args.to.now c.args.pace.frames c.args.pace.takes c.args.publisher.now c.loop-came.publisher c.publish_turn-ended.new.publisher c.args.seat.now c.loop-came.seat c.publish_turn-ended.new.seat c.take_turn.new.seat _ _ _ _ _
    at so c.publish_turn-ended.ensures.most enough
    h.learns c.loop-came.invariant.so_far.whole c.take_turn.ensures.takes c.in_default.not-WriteFailed c.take_turn.ensures.open c.take_turn.ensures.done c.take_turn.ensures.empty in
    let led = led-takes _ _ _ c.drain-out.ensures.takes.run in
    let some = c.requires.pace.0 in
    rw (c.drain-out.ensures.same, c.take_turn.ensures.same) (omega (arith, now, led-on _ _ _ led, some))

pub returns-in-Some-clause-in_turns : goal.returns-in-Some-clause-in_turns
returns-in-Some-clause-in_turns g c few at =
    let learned = c.publish_turn-ended.ensures.publishes.learns in
    let there = ap cursor_of (learned-account _ _ _ _ learned) in
    let led = led-takes _ _ _ c.take_turn.ensures.takes.run in
    let drained = led-takes _ _ _ c.drain-out.ensures.takes.run in
    passed-in-turns _ _ _ _ _ _ _ c.loop-came.publisher _ _ c.loop-came.seat _ _ _ _ c.args.pace.frames c.args.pace.takes (returns-in-Some-clause-passes g c) (c.loop-came.invariant.turns few at)
    (rw (c.drain-out.ensures.same, c.take_turn.ensures.same) c.publish_turn-ended.ensures.most) (omega (arith, there, led-on _ _ _ led, led-on _ _ _ drained))

pub returns-in-Some-clause-failed : goal.returns-in-Some-clause-failed
returns-in-Some-clause-failed g c failed = c.drain-out.ensures.failed (stop-failed _ _ (sym c.new.ensures ∙ failed))

pub returns-in-Some-clause-works : goal.returns-in-Some-clause-works
returns-in-Some-clause-works g c ok =
    c.drain-out.ensures.works (λ failed. ok (c.new.ensures ∙ ap (stop_of c.in-Some.end) failed)) ∙ c.take_turn.ensures.works c.in_default.not-WriteFailed ∙ c.loop-came.invariant.works

pub loop-came-preserved : goal.loop-came-preserved
loop-came-preserved g c =
    let before = c.loop-came.invariant in
    let h = c.publish_turn-ended.ensures.publishes in
    let ok = c.in_default.not-WriteFailed in
    let takes = c.take_turn.ensures.takes in
    let led = led-takes _ _ _ takes.run in
    let ring = turn-ring _ _ _ _ _ _ _ _ _ _ h ∙ before.ring in
    let within = rw c.take_turn.ensures.same at c.take_turn.ensures.published.0 in
    let now = passed-takes g.S.Source.incoming g.S.Source.failed c.args.from.now c.args.to.now _ _ _ _ _ _ _ _ _ _ _ _ _ _
    (passed-frames g.S.Source.incoming g.S.Source.failed c.args.from.now c.args.to.now _ _ _ _ _ _ _ _ _ _ _ _ _ _ before.so_far h) takes within ok in
    rw c.take_turn.ensures.same (record {
      so_far = now;
      ring = ring;
      seat_ring = led.ring ∙ turn-seat-ring _ _ _ _ _ _ _ _ _ _ h ∙ before.seat_ring;
      few = omega (arith, c.publish_turn-ended.ensures.counted, before.few);
      counted = c.take_turn.ensures.counted;
      uncut = uncut-on _ _ _ _ _ _ _ _ ok takes;
      works = c.take_turn.ensures.works ok ∙ before.works;
      step = λ enough at.
          turn-in-step c.args.to.now c.args.pace.frames c.args.pace.takes c.args.publisher.now c.loop-came.publisher c.publish_turn-ended.new.publisher c.args.seat.now c.loop-came.seat c.publish_turn-ended.new.seat c.take_turn.new.seat _ _ _ _ _
          at (before.step enough at) c.publish_turn-ended.ensures.most enough
          h.learns before.so_far.whole takes ok c.take_turn.ensures.open c.take_turn.ensures.done c.take_turn.ensures.empty;
      kept = λ few enough at. c.take_turn.ensures.kept (turn-few _ _ _ _ _ _ _ _ _ _ h c.args.publisher.now.ring c.args.pace.frames before.ring few (none-waits c.args.publisher.now c.loop-came.publisher c.args.seat.now c.loop-came.seat (before.step enough (omega (arith, at))) at) c.publish_turn-ended.ensures.most) ∙ before.kept few enough at;
      turns = λ few at.
          turn-in-turns c.args.pace.frames c.args.pace.takes c.args.publisher.now c.loop-came.publisher c.publish_turn-ended.new.publisher c.args.seat.now c.loop-came.seat c.publish_turn-ended.new.seat c.take_turn.new.seat few at
          (before.turns few at) c.publish_turn-ended.ensures.most (learned-account _ _ _ _ h.learns) (passed-grew _ _ _ _ _ _ _ _ _ _ _ _ _ _ now) now.whole
          _ ok c.take_turn.ensures.open c.take_turn.ensures.done c.take_turn.ensures.empty;
    })
