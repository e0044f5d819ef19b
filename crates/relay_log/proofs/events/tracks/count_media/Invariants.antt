use Rattle.std.proofs.Common.{◌≡◌, ◌+◌, ◌≤◌, drop}
use Rattle.relay_log.specs.Tracks.{media_lines}
use Rattle.relay_log.proofs.events.tracks.count_media.Given as goal

-- those that were counted and those that follow
abbrev pub invariant-loop-place : goal.invariant-loop-place
invariant-loop-place l = record {
  counted : l.count + media_lines (drop l.place l.text) ≡ media_lines l.text;
  few : l.count ≤ l.place;
}
