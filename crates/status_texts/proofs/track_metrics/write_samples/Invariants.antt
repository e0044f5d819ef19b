use Rattle.std.proofs.Common.{◌≡◌, ◌++◌, length, take, drop}
use Rattle.std.specs.List.{flat_map}
use Rattle.status_texts.specs.Tracks.{track_sample}
use Rattle.status_texts.proofs.track_metrics.write_samples.Given as goal

-- the text so far and that of the tracks left are the whole text
abbrev pub invariant-loop-track : goal.invariant-loop-track
invariant-loop-track l = record {
  told : l.out.items ++ flat_map (track_sample l.metric l.mount l.family) (drop l.track-index l.tracks) ≡ l.fn.out.items ++ flat_map (track_sample l.metric l.mount l.family) l.tracks;
  kept : take (length l.fn.out.items) l.out.items ≡ l.fn.out.items;
}
