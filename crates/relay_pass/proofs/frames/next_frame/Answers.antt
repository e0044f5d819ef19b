use Rattle.std.proofs.Common.{arith, refl}
use Rattle.relay_pass.specs.declared.frames.Incoming.TheVariants as incoming
use Rattle.relay_pass.specs.declared.report.StreamEnd.TheVariants as stream
use Rattle.relay_pass.proofs.Handing.{comes-at, skips-on}
use Rattle.relay_pass.proofs.frames.next_frame.Goals as goal

pub returns-in-Unit-Frame-clause-comes : goal.returns-in-Unit-Frame-clause-comes
returns-in-Unit-Frame-clause-comes g c =
    let out = rw c.in-Unit-Frame.field-0-is at c.in-Unit-Frame.ensures.hands_out in
    comes-at _ _ _ _ _ _ (incoming.Frame c.in-Unit-Frame.frame) c.loop-frame.invariant.so_far out refl tt

pub returns-in-End-clause-comes : goal.returns-in-End-clause-comes
returns-in-End-clause-comes g c =
    comes-at _ _ _ _ _ _ (incoming.Ended stream.End) c.loop-frame.invariant.so_far c.in-End.ensures.hands_out refl (c.in-End.ensures.tells, c.in-End.ensures.lasts)

pub returns-in-Fault-clause-comes : goal.returns-in-Fault-clause-comes
returns-in-Fault-clause-comes g c =
    comes-at _ _ _ _ _ _ (incoming.Ended (stream.Fault c.in-Fault.fault)) c.loop-frame.invariant.so_far c.in-Fault.ensures.hands_out refl (c.in-Fault.ensures.tells, c.in-Fault.ensures.lasts)

pub returns-in-ReadFailed-clause-comes : goal.returns-in-ReadFailed-clause-comes
returns-in-ReadFailed-clause-comes g c =
    comes-at _ _ _ _ _ _ (incoming.Ended stream.ReadFailed) c.loop-frame.invariant.so_far c.in-ReadFailed.ensures.hands_out refl (c.in-ReadFailed.ensures.tells, c.in-ReadFailed.ensures.lasts)

pub returns-in-OutOfMemory-clause-comes : goal.returns-in-OutOfMemory-clause-comes
returns-in-OutOfMemory-clause-comes g c =
    comes-at _ _ _ _ _ _ (incoming.Ended stream.OutOfMemory) c.loop-frame.invariant.so_far c.in-OutOfMemory.ensures.hands_out refl (c.in-OutOfMemory.ensures.tells, c.in-OutOfMemory.ensures.lasts)

pub loop-frame-preserved-in-Unit-Message : goal.loop-frame-preserved-in-Unit-Message
loop-frame-preserved-in-Unit-Message g c =
    let out = rw c.in-Unit-Message.field-0-is at c.in-Unit-Message.ensures.hands_out in
    record {
      so_far = skips-on _ _ _ _ _ c.loop-frame.invariant.so_far out refl;
      left = omega (arith, c.loop-frame.invariant.left, c.next.ensures.ends);
    }
