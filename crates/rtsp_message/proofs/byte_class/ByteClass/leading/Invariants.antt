use Rattle.std.proofs.Common.{take}
use Rattle.rtsp_message.specs.Lines.{Each}
use Rattle.rtsp_message.proofs.byte_class.ByteClass.leading.Given as goal

abbrev pub invariant-loop-i : goal.invariant-loop-i
invariant-loop-i l = Each l.self (take l.i l.bytes)
