use Rattle.std.proofs.Common.{◌∙◌, ℕ, refl, sym, subst, arith}
use Rattle.rtsp_message.specs.Intakes.{IsOver}
use Rattle.publisher.specs.declared.report.InStop.TheVariants as stop
use Rattle.publisher.specs.Fates.{HasFate}
use Rattle.publisher.proofs.Incoming.{ends_seen, none_seen, one_more_seen, stays, total_one}
use Rattle.publisher.proofs.relaying.relay_frames.Goals as goal

pub loop-frame-init : goal.loop-frame-init
loop-frame-init g c = record {
  so_far = none_seen _ _ _ _ _ g.O.FateObserver.observes _ _ _ _ _ _ c.new-report.ensures;
  bytes = refl;
  left = omega (arith, c.new-report.ensures.all);
  over = λ answer over. (over, c.new-report.ensures.all);
  few = omega (arith, c.left-most.ensures.few);
}

pub loop-frame-preserved : goal.loop-frame-preserved
loop-frame-preserved g c =
    let before = c.loop-frame.invariant in
    let out = rw c.in-Unit-Frame.field-0-is at c.in-Unit-Frame.ensures.hands_out in
    let has = subst (λ (room : ℕ). HasFate c.args.channels.now room g.F.Feed.may_refuse c.in-Unit-Frame.frame c.publish_frame-fate.result) before.bytes c.publish_frame-fate.ensures.fate in
    let one = total_one _ _ _ c.count.ensures in
    record {
      so_far = one_more_seen _ _ _ _ _ _ _ _ _ _ _ _ _ _ _ _ _ _ _ _ _ _ _ _ _ before.so_far c.loop-frame.auto.points out has c.publish_frame-fate.ensures.meets c.count.ensures c.publish_frame-fate.ensures.log c.publish_frame-fate.ensures.points (rw c.len.ensures at c.observe.ensures);
      bytes = c.publish_frame-fate.ensures.same ∙ before.bytes;
      left = omega (arith, before.left, c.in-Unit-Frame.ensures.ends, one);
      over = λ answer over.
          let same = c.in-Unit-Frame.ensures.for_good answer (before.over answer over).0 in
          absurd (subst (IsOver g.S.Source.failed c.loop-frame.intake) (sym same) (before.over answer over).0);
      few = before.few;
    }

pub returns-in-Unit-Message-clause-relays : goal.returns-in-Unit-Message-clause-relays
returns-in-Unit-Message-clause-relays g c =
    let out = rw c.in-Unit-Message.field-0-is at c.in-Unit-Message.ensures.hands_out in
    rw c.stopped.ensures (ends_seen _ _ _ _ _ _ _ _ _ _ _ _ _ _ _ _ _ _ _ (stop.Message c.in-Unit-Message.request) c.loop-frame.invariant.so_far out tt tt)

pub returns-in-End-clause-relays : goal.returns-in-End-clause-relays
returns-in-End-clause-relays g c =
    rw c.stopped-in-End.ensures (ends_seen _ _ _ _ _ _ _ _ _ _ _ _ _ _ _ _ _ _ _ stop.End c.loop-frame.invariant.so_far c.in-End.ensures.hands_out c.in-End.ensures.tells c.in-End.ensures.lasts)

pub returns-in-Fault-clause-relays : goal.returns-in-Fault-clause-relays
returns-in-Fault-clause-relays g c =
    rw c.stopped-in-Fault.ensures (ends_seen _ _ _ _ _ _ _ _ _ _ _ _ _ _ _ _ _ _ _ (stop.Fault c.in-Fault.fault) c.loop-frame.invariant.so_far c.in-Fault.ensures.hands_out c.in-Fault.ensures.tells c.in-Fault.ensures.lasts)

pub returns-in-ReadFailed-clause-relays : goal.returns-in-ReadFailed-clause-relays
returns-in-ReadFailed-clause-relays g c =
    rw c.stopped-in-ReadFailed.ensures (ends_seen _ _ _ _ _ _ _ _ _ _ _ _ _ _ _ _ _ _ _ stop.ReadFailed c.loop-frame.invariant.so_far c.in-ReadFailed.ensures.hands_out c.in-ReadFailed.ensures.tells c.in-ReadFailed.ensures.lasts)

pub returns-in-OutOfMemory-clause-relays : goal.returns-in-OutOfMemory-clause-relays
returns-in-OutOfMemory-clause-relays g c =
    rw c.stopped-in-OutOfMemory.ensures (ends_seen _ _ _ _ _ _ _ _ _ _ _ _ _ _ _ _ _ _ _ stop.OutOfMemory c.loop-frame.invariant.so_far c.in-OutOfMemory.ensures.hands_out c.in-OutOfMemory.ensures.tells c.in-OutOfMemory.ensures.lasts)

pub returns-in-Unit-Message-clause-for_good : goal.returns-in-Unit-Message-clause-for_good
returns-in-Unit-Message-clause-for_good g c answer over =
    let now = (c.loop-frame.invariant.over answer over).0 in
    absurd (subst (IsOver g.S.Source.failed c.loop-frame.intake) (sym (c.in-Unit-Message.ensures.for_good answer now)) now)

pub returns-in-End-clause-for_good : goal.returns-in-End-clause-for_good
returns-in-End-clause-for_good g c = rw c.stopped-in-End.ensures (stays g.S.Source.failed c.args.intake.now c.loop-frame.intake c.loop-frame.report stop.End c.loop-frame.invariant.over c.in-End.ensures.for_good)

pub returns-in-Fault-clause-for_good : goal.returns-in-Fault-clause-for_good
returns-in-Fault-clause-for_good g c = rw c.stopped-in-Fault.ensures (stays g.S.Source.failed c.args.intake.now c.loop-frame.intake c.loop-frame.report (stop.Fault c.in-Fault.fault) c.loop-frame.invariant.over c.in-Fault.ensures.for_good)

pub returns-in-ReadFailed-clause-for_good : goal.returns-in-ReadFailed-clause-for_good
returns-in-ReadFailed-clause-for_good g c = rw c.stopped-in-ReadFailed.ensures (stays g.S.Source.failed c.args.intake.now c.loop-frame.intake c.loop-frame.report stop.ReadFailed c.loop-frame.invariant.over c.in-ReadFailed.ensures.for_good)

pub returns-in-OutOfMemory-clause-for_good : goal.returns-in-OutOfMemory-clause-for_good
returns-in-OutOfMemory-clause-for_good g c = rw c.stopped-in-OutOfMemory.ensures (stays g.S.Source.failed c.args.intake.now c.loop-frame.intake c.loop-frame.report stop.OutOfMemory c.loop-frame.invariant.over c.in-OutOfMemory.ensures.for_good)
