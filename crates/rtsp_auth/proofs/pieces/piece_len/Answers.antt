use Rattle.std.proofs.Common.{sym, ◌∙◌}
use Rattle.rtsp_auth.proofs.Cutting.{begins, goes_on}
use Rattle.rtsp_auth.proofs.pieces.piece_len.Goals as goal

pub loop-i-init : goal.loop-i-init
loop-i-init c = begins _

pub loop-i-preserved : goal.loop-i-preserved
loop-i-preserved c =
    rw c.after-place.ensures (goes_on _ _ _ c.loop-i-test.true c.loop-i.invariant (sym c.cuts.ensures ∙ c.if-cuts.false))
