use Rattle.std.proofs.Common.{◌≡◌, ◌++◌, take, drop}
use Rattle.source_sdp.specs.Section.{before_media}
use Rattle.source_sdp.proofs.section.before_media.Given as goal

-- no line so far is an `m=` line
abbrev pub invariant-loop-i : goal.invariant-loop-i
invariant-loop-i l = take l.i l.lines ++ before_media (drop l.i l.lines) ≡ before_media l.lines
