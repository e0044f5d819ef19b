use Rattle.std.proofs.Common.{◌≡◌, ◌++◌, length, take, drop}
use Rattle.std.specs.List.{flat_map}
use Rattle.status_json.specs.Json.{byte_text}
use Rattle.status_json.proofs.values.write_bytes.Given as goal

-- the text so far and that of the bytes left are the whole text
abbrev pub invariant-loop-byte : goal.invariant-loop-byte
invariant-loop-byte l = record {
  told : l.out.items ++ flat_map byte_text (drop l.byte-index l.text) ≡ l.fn.out.items ++ flat_map byte_text l.text;
  kept : take (length l.fn.out.items) l.out.items ≡ l.fn.out.items;
}
