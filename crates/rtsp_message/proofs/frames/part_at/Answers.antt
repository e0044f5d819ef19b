use Rattle.std.proofs.Common.{◌≡◌, ◌+◌, ◌-◌, List, ℕ, length, take, drop, ap, sym, subst, ◌∙◌, slice_index}
use Rattle.std.proofs.lemmas.List.{take_rest}
use Rattle.interleaved.specs.Frame.{IsFrame, FrameBegins}
use Rattle.rtsp_message.specs.Stores.{between}
use Rattle.rtsp_message.proofs.Placing.{frame_placed}
use Rattle.rtsp_message.proofs.frames.part_at.Goals as goal

pub returns-clause-frame : goal.returns-clause-frame
returns-clause-frame c =
    let block = c.args.block.now in
    let from = c.args.from in
    let len = c.in-Whole.len in
    let bytes = c.as_slice-bytes.result.now in
    let rest = take (length bytes - from) (drop from bytes) in
    let same : rest ≡ drop from block = take_rest bytes from ∙ ap (drop from) c.as_slice-bytes.ensures in
    let begins = subst (λ (l : List ℕ). FrameBegins l len) same c.in-Whole.ensures.stands in
    let placed = frame_placed block from len (slice_index rest 1) begins (ap (λ (l : List ℕ). slice_index l 1) same) in
    let cut : c.from-payload.result ≡ between block (from + 4) (from + len) = c.from-payload.ensures ∙ c.in_ok-slice.ensures.ok in
    subst (λ (l : List ℕ). IsFrame (take len (drop from block)) (slice_index rest 1) l) (sym cut) placed
