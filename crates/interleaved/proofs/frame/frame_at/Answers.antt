use Rattle.std.proofs.Common.{arith}
use Rattle.interleaved.proofs.Frames.{FrameBegins-announced, FrameBegins-length}
use Rattle.interleaved.proofs.frame.frame_at.Goals as goal

pub returns-then-len-bytes-clause-stands : goal.returns-then-len-bytes-clause-stands
returns-then-len-bytes-clause-stands c =
    FrameBegins-announced c.args.bytes.now _ c.requires c.in-len4-up.len_at_least (omega (arith, c.from_be_bytes.ensures, c.from-len.ensures)) c.if-len-bytes.true

-- a frame in front would be as long as announced, and so longer than the bytes
pub returns-else-len-bytes-clause-stands : goal.returns-else-len-bytes-clause-stands
returns-else-len-bytes-clause-stands c = λ len begins.
    omega (arith, FrameBegins-length c.args.bytes.now len begins, begins.0, c.from_be_bytes.ensures, c.from-len.ensures, c.if-len-bytes.false)
