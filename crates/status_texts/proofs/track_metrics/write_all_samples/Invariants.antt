use Rattle.std.proofs.Common.{◌≡◌, ◌++◌, length, take, drop}
use Rattle.std.specs.List.{flat_map}
use Rattle.status_texts.specs.Tracks.{track_samples}
use Rattle.status_texts.proofs.track_metrics.write_all_samples.Given as goal

-- the text so far and that of the names left are the whole text
abbrev pub invariant-loop-figure : goal.invariant-loop-figure
invariant-loop-figure l = record {
  told : l.out.items ++ flat_map (track_samples l.metric l.family) (drop l.figure-index l.figures) ≡ l.fn.out.items ++ flat_map (track_samples l.metric l.family) l.figures;
  kept : take (length l.fn.out.items) l.out.items ≡ l.fn.out.items;
}
