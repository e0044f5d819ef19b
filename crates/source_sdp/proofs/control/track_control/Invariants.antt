use Rattle.std.proofs.Common.{◌≡◌, drop}
use Rattle.source_sdp.specs.Control.{control_of}
use Rattle.source_sdp.proofs.control.track_control.Given as goal

-- no line so far names a track
abbrev pub invariant-loop-line : goal.invariant-loop-line
invariant-loop-line l = control_of (drop l.line-index l.lines) ≡ control_of l.lines
