use Rattle.std.proofs.Common.{◌≡◌, ◌++◌, map, drop}
use Rattle.relay_log.specs.ShownTracks.{shown_track}
use Rattle.relay_log.proofs.reports.shown_tracks.shown_tracks.Given as goal

-- the tracks so far and those that are left, as they are shown, are all
abbrev pub invariant-loop-track : goal.invariant-loop-track
invariant-loop-track l = l.shown.items ++ map shown_track (drop l.track-index l.tracks) ≡ map shown_track l.tracks
