use Rattle.std.proofs.Common.{[], sym, subst, append-nil}
use Rattle.rtsp_message.specs.Fronts.{IsHeadFront}
use Rattle.rtsp_message.proofs.OneHead.{no_head_and_fault, no_head_and_open}
use Rattle.rtsp_message.proofs.Cuts.{same_bytes}
use Rattle.rtsp_message.proofs.cutting.cut_head.Goals as goal

pub unreachable-requires : goal.unreachable-requires
unreachable-requires c =
    let bytes = c.args.bytes.now in
    no_head_and_fault c.args.peer bytes bytes [] c.requires.0 c.in-Bad.field-0 c.requires.1 (sym (append-nil bytes)) (subst (IsHeadFront c.args.peer bytes) c.in-Bad.is c.in_ok-request.ensures)

pub unreachable-requires-in-Unfinished : goal.unreachable-requires-in-Unfinished
unreachable-requires-in-Unfinished c =
    let bytes = c.args.bytes.now in
    no_head_and_open c.args.peer bytes bytes [] c.requires.0 c.requires.1 (sym (append-nil bytes)) (subst (IsHeadFront c.args.peer bytes) c.in-Unfinished.is c.in_ok-request.ensures)

pub returns : goal.returns
returns c =
    let whole = subst (IsHeadFront c.args.peer c.args.bytes.now) c.in-Whole.is c.in_ok-request.ensures in
    same_bytes c.args.peer c.args.bytes.now c.in-Whole.len c.requires.0 c.in-Whole.request c.requires.1 whole.1
