use Rattle.std.proofs.Common.{◌≡◌, ◌++◌, length, take, drop}
use Rattle.std.specs.List.{flat_map}
use Rattle.rtsp_auth.specs.Answers.{quoted_byte}
use Rattle.rtsp_auth.proofs.quoting.write_bytes.Given as goal

-- the text so far and that of the bytes left are the whole text
abbrev pub invariant-loop-byte : goal.invariant-loop-byte
invariant-loop-byte l = record {
  told : l.out.items ++ flat_map quoted_byte (drop l.byte-index l.text) ≡ l.fn.out.items ++ flat_map quoted_byte l.text;
  kept : take (length l.fn.out.items) l.out.items ≡ l.fn.out.items;
}
