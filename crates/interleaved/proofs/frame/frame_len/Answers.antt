use Rattle.std.proofs.Common.{arith}
use Rattle.interleaved.proofs.Frames.{IsFrame-length}
use Rattle.interleaved.proofs.frame.frame_len.Goals as goal

pub returns-clause-frame : goal.returns-clause-frame
returns-clause-frame c bytes payload channel front is = omega (arith, IsFrame-length bytes c.args.head channel payload front is, c.from_be_bytes.ensures, c.from.ensures)
