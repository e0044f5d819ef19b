use Rattle.std.proofs.Common.{◌≡◌, ◌≤◌, ◌+◌, length}
use Rattle.source_sdp.specs.Announced.{announced_text}
use Rattle.source_sdp.specs.Kept.{kept_among}
use Rattle.source_sdp.proofs.KeptTracks.{kept_from}
use Rattle.source_sdp.proofs.TextSizes.{text_from}
use Rattle.source_sdp.proofs.room.after_tracks.Given as goal

-- the tracks so far have taken what isn't left
abbrev pub invariant-loop-place : goal.invariant-loop-place
invariant-loop-place l = record {
  few : l.number ≤ l.place;
  taken : l.left + length (announced_text (kept_among l.tracks l.kept)) ≡ l.fn.room + length (text_from l.number (kept_from l.place l.tracks l.kept));
}
