use Rattle.std.proofs.Common.{◌≡◌, ◌++◌, length, take, drop}
use Rattle.std.specs.List.{flat_map}
use Rattle.status_texts.specs.LastPackets.{last_sample}
use Rattle.status_texts.proofs.last_packets.write_samples.Given as goal

-- the text so far and that of the names left are the whole text
abbrev pub invariant-loop-figure : goal.invariant-loop-figure
invariant-loop-figure l = record {
  told : l.out.items ++ flat_map (last_sample l.metric l.wall) (drop l.figure-index l.figures) ≡ l.fn.out.items ++ flat_map (last_sample l.metric l.wall) l.figures;
  kept : take (length l.fn.out.items) l.out.items ≡ l.fn.out.items;
}
