use Rattle.std.proofs.Common.{◌≡◌}
use Rattle.source_sdp.specs.Kept.{kept_among}
use Rattle.source_sdp.proofs.KeptTracks.{kept_from}
use Rattle.source_sdp.proofs.keeping.keeps_track.Given as goal

-- no track so far goes on
abbrev pub invariant-loop-place : goal.invariant-loop-place
invariant-loop-place l = kept_from l.place l.tracks l.kept ≡ kept_among l.tracks l.kept
