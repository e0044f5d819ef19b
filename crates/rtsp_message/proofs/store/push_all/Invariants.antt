use Rattle.std.proofs.Common.{◌≡◌, ◌++◌, take}
use Rattle.std.specs.Prelude.{vec_capacity}
use Rattle.rtsp_message.proofs.store.push_all.Given as goal

-- the bytes so far are pushed
abbrev pub invariant-loop-byte : goal.invariant-loop-byte
invariant-loop-byte l = (l.buffer.items ≡ l.fn.buffer.items ++ take l.byte-index l.bytes) × (vec_capacity l.buffer ≡ vec_capacity l.fn.buffer)
