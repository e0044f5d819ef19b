use Rattle.std.proofs.Common.{List, ℕ, subst, arith}
use Rattle.std.proofs.lemmas.List.{take_rest}
use Rattle.interleaved.specs.Frame.{FrameBegins}
use Rattle.rtsp_message.proofs.Placing.{frame_more}
use Rattle.rtsp_message.proofs.frames.frames_at.Goals as goal

pub loop-count-preserved : goal.loop-count-preserved
loop-count-preserved c =
    let bytes = c.args.bytes.now in
    let frame = subst (λ (l : List ℕ). FrameBegins l c.in-Whole.size) (take_rest bytes c.loop-count.len) c.in-Whole.ensures.stands in
    (frame_more bytes c.loop-count.len c.in-Whole.size c.loop-count.count c.loop-count.invariant.0 frame, omega (arith, c.loop-count-test.true))
