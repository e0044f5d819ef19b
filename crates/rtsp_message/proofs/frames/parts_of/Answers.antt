use Rattle.std.proofs.Common.{◌+◌, List, [], ◌∷◌, length, sym, ap, subst, arith, length-append, length-drop, length-take, drop}
use Rattle.rtsp_message.specs.declared.unit.Unit.{Unit as StreamUnit}
use Rattle.rtsp_message.specs.declared.unit.Unit.TheVariants.{Frame}
use Rattle.rtsp_message.specs.Stream.{ReadsSoFar}
use Rattle.rtsp_message.proofs.Pieces.{unit_more}
use Rattle.rtsp_message.proofs.frames.parts_of.Goals as goal

pub loop-from-preserved : goal.loop-from-preserved
loop-from-preserved c =
    let block = c.args.block.now in
    let from = c.loop-from.from in
    let len = c.in-Some.len in
    let content : StreamUnit = Frame c.in-Some.frame in
    let within = rw c.in-Some.is at c.in_ok-frame.ensures.within in
    let frame = rw c.in-Some.is at c.in_ok-frame.ensures.frame in
    let pushed = c.in_ok-push.ensures.items in
    let size = length-append c.loop-from.units.items (content ∷ []) in (
      λ peer. subst (λ (us : List StreamUnit). ReadsSoFar peer block us (from + len)) (sym pushed) (unit_more peer content len (c.loop-from.invariant.0 peer) within frame),
      omega (arith, c.loop-from.invariant.1, ap length pushed, size, ap length frame.2, length-take len (drop from block)),
      omega (arith, within, length-drop from block, c.loop-from.invariant.2),
    )
