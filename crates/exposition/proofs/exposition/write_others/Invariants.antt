use Rattle.std.proofs.Common.{◌≡◌, ◌++◌, length, take, drop}
use Rattle.std.specs.List.{flat_map}
use Rattle.exposition.specs.Exposition.{next_text}
use Rattle.exposition.proofs.exposition.write_others.Given as goal

-- the text so far and that of the labels left are the whole text
abbrev pub invariant-loop-label : goal.invariant-loop-label
invariant-loop-label l = record {
  told : l.out.items ++ flat_map next_text (drop l.label-index l.labels) ≡ l.fn.out.items ++ flat_map next_text l.labels;
  kept : take (length l.fn.out.items) l.out.items ≡ l.fn.out.items;
}
