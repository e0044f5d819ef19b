use Rattle.std.proofs.Common.{◌≡◌, ◌++◌, length, take, drop}
use Rattle.std.specs.List.{flat_map}
use Rattle.status_texts.specs.Labels.{named_count}
use Rattle.status_texts.proofs.server_metrics.write_counts.Given as goal

-- the text so far and that of the counts left are the whole text
abbrev pub invariant-loop-count : goal.invariant-loop-count
invariant-loop-count l = record {
  told : l.out.items ++ flat_map (named_count l.metric l.label) (drop l.count-index l.counts) ≡ l.fn.out.items ++ flat_map (named_count l.metric l.label) l.counts;
  kept : take (length l.fn.out.items) l.out.items ≡ l.fn.out.items;
}
