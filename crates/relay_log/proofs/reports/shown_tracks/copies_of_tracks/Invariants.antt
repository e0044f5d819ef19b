use Rattle.std.proofs.Common.{◌≡◌, ◌++◌, drop}
use Rattle.relay_log.proofs.reports.shown_tracks.copies_of_tracks.Given as goal

-- the copies so far and the tracks that are left are all tracks
abbrev pub invariant-loop-track : goal.invariant-loop-track
invariant-loop-track l = l.copies.items ++ drop l.track-index l.tracks ≡ l.tracks
