use Rattle.std.proofs.Common.{◌≤◌}
use Rattle.rtsp_message.specs.Intakes.{weight}
use Rattle.relay_pass.proofs.Handing.{Skipped}
use Rattle.relay_pass.proofs.frames.next_frame.Given as goal

abbrev pub invariant-loop-frame : goal.invariant-loop-frame
invariant-loop-frame g l = record {
  so_far : Skipped g.S.Source.incoming l.fn.intake l.intake;
  left : weight g.S.Source.bound l.intake ≤ weight g.S.Source.bound l.fn.intake;
}

abbrev pub decreases-loop-frame : goal.decreases-loop-frame
decreases-loop-frame g l = weight g.S.Source.bound l.intake
