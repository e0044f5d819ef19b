use Rattle.std.proofs.Common.{◌≡◌, take}
use Rattle.rtsp_message.proofs.headers.copy_headers.Given as goal

-- the fields so far are copied
abbrev pub invariant-loop-header : goal.invariant-loop-header
invariant-loop-header l = l.copied ≡ take l.header-index l.fields
