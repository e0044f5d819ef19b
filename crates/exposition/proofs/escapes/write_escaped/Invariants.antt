use Rattle.std.proofs.Common.{◌≡◌, ◌++◌, length, take, drop}
use Rattle.std.specs.List.{flat_map}
use Rattle.exposition.specs.Exposition.{value_byte}
use Rattle.exposition.proofs.escapes.write_escaped.Given as goal

-- the text so far and that of the bytes left are the whole text
abbrev pub invariant-loop-byte : goal.invariant-loop-byte
invariant-loop-byte l = record {
  told : l.out.items ++ flat_map value_byte (drop l.byte-index l.text) ≡ l.fn.out.items ++ flat_map value_byte l.text;
  kept : take (length l.fn.out.items) l.out.items ≡ l.fn.out.items;
}
