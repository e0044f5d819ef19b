use Rattle.std.proofs.Common.{◌≡◌, ◌≤◌, ◌++◌}
use Rattle.source_sdp.specs.Announced.{announced_text}
use Rattle.source_sdp.specs.Kept.{kept_among}
use Rattle.source_sdp.proofs.KeptTracks.{kept_from}
use Rattle.source_sdp.proofs.TextSizes.{text_from}
use Rattle.source_sdp.proofs.writing.write_tracks.Given as goal

-- the text so far and that of the tracks left are the whole text
abbrev pub invariant-loop-place : goal.invariant-loop-place
invariant-loop-place l = record {
  few : l.number ≤ l.place;
  whole : l.out.items ++ text_from l.number (kept_from l.place l.tracks l.kept) ≡ announced_text (kept_among l.tracks l.kept);
}
