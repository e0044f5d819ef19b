use Rattle.std.proofs.Common.{List, ℕ, length, drop, sym, subst, ◌∙◌}
use Rattle.interleaved.specs.Frame.{FrameBegins}
use Rattle.rtsp_message.proofs.Cuts.{between_first, frame_cut}
use Rattle.rtsp_message.proofs.cutting.cut_frame.Goals as goal

pub frame_of-requires : goal.frame_of-requires
frame_of-requires c =
    let whole = c.whole.ensures ∙ between_first c.args.store.now.bytes c.args.from c.args.len in
    subst (λ (l : List ℕ). FrameBegins l (length l)) (sym whole) (frame_cut (drop c.args.from c.args.store.now.bytes) c.args.len c.requires.frame)
