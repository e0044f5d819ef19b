use Rattle.std.proofs.Common.{◌≡◌, drop}
use Rattle.rtsp_message.specs.Headers.{value_of}
use Rattle.rtsp_message.proofs.headers.header_value.Given as goal

-- the fields so far don't have the name
abbrev pub invariant-loop-header : goal.invariant-loop-header
invariant-loop-header l = value_of (drop l.header-index l.fields) l.name ≡ value_of l.fields l.name
