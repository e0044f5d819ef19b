use Rattle.std.proofs.Common.{◌≡◌, drop}
use Rattle.sdp.specs.Fields.{control_among}
use Rattle.source_sdp.proofs.control.session_control.Given as goal

-- no line so far is a control
abbrev pub invariant-loop-line : goal.invariant-loop-line
invariant-loop-line l = control_among (drop l.line-index l.lines) ≡ control_among l.lines
