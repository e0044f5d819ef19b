use Rattle.std.proofs.Common.{◌≡◌, ◌++◌, length, take, drop}
use Rattle.std.specs.List.{flat_map}
use Rattle.exposition.specs.Exposition.{help_byte}
use Rattle.exposition.proofs.escapes.write_help.Given as goal

-- the text so far and that of the bytes left are the whole text
abbrev pub invariant-loop-byte : goal.invariant-loop-byte
invariant-loop-byte l = record {
  told : l.out.items ++ flat_map help_byte (drop l.byte-index l.help) ≡ l.fn.out.items ++ flat_map help_byte l.help;
  kept : take (length l.fn.out.items) l.out.items ≡ l.fn.out.items;
}
