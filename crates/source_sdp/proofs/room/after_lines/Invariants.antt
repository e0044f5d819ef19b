use Rattle.std.proofs.Common.{◌≡◌, ◌+◌, length, drop}
use Rattle.std.specs.List.{flat_map}
use Rattle.sdp.specs.Written.{written}
use Rattle.source_sdp.proofs.room.after_lines.Given as goal

-- the lines so far have taken what isn't left
abbrev pub invariant-loop-line : goal.invariant-loop-line
invariant-loop-line l = l.left + length (flat_map written l.lines) ≡ l.fn.room + length (flat_map written (drop l.line-index l.lines))
