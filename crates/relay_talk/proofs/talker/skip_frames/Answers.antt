use Rattle.std.proofs.Common.{arith}
use Rattle.relay_talk.proofs.Fetching.{skips_more}
use Rattle.relay_talk.proofs.talker.skip_frames.Goals as goal

pub loop-heard-preserved-in-Unit-Frame : goal.loop-heard-preserved-in-Unit-Frame
loop-heard-preserved-in-Unit-Frame g c =
    let out = rw c.in-Unit-Frame.field-0-is at c.in-Unit-Frame.ensures.hands_out in
    record {
      skips = skips_more g.S.Source.incoming _ _ _ _ _ c.in-Unit-Frame.field-0-0 c.loop-heard.invariant.skips out;
      left = omega (arith, c.loop-heard.invariant.left, c.in-Unit-Frame.ensures.ends);
    }
