use Rattle.std.proofs.Common.{◌≡◌, ◌++◌, drop}
use Rattle.std.specs.List.{flat_map}
use Rattle.sdp.specs.Written.{written}
use Rattle.source_sdp.proofs.writing.write_lines.Given as goal

-- the text so far and that of the lines left are the whole text
abbrev pub invariant-loop-line : goal.invariant-loop-line
invariant-loop-line l = l.out.items ++ flat_map written (drop l.line-index l.lines) ≡ l.fn.out.items ++ flat_map written l.lines
