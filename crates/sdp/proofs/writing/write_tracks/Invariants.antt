use Rattle.std.proofs.Common.{◌≡◌, ◌++◌, drop}
use Rattle.std.specs.List.{flat_map}
use Rattle.sdp.specs.Written.{written, lines_from}
use Rattle.sdp.proofs.writing.write_tracks.Given as goal

-- the text so far and that of the tracks left are the whole text
abbrev pub invariant-loop-number : goal.invariant-loop-number
invariant-loop-number l = l.out.items ++ flat_map written (lines_from l.number (drop l.number l.tracks)) ≡ l.fn.out.items ++ flat_map written (lines_from 0 l.tracks)
