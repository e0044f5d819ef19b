use Rattle.rtsp_auth.proofs.Cutting.{PiecesAt}
use Rattle.rtsp_auth.proofs.pieces.piece_len.Given as goal

-- the first piece begins with the bytes so far
abbrev pub invariant-loop-i : goal.invariant-loop-i
invariant-loop-i l = PiecesAt l.text l.i l.place
