use Rattle.std.proofs.Common.{◌≡◌, ◌++◌, filter, drop}
use Rattle.source_sdp.specs.Usable.{describes_format}
use Rattle.source_sdp.proofs.section.read_attributes.Given as goal

-- those so far and those among the lines left are all
abbrev pub invariant-loop-line : goal.invariant-loop-line
invariant-loop-line l = l.attributes ++ filter describes_format (drop l.line-index l.lines) ≡ filter describes_format l.lines
