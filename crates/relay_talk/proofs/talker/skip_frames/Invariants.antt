use Rattle.std.proofs.Common.{◌≤◌}
use Rattle.rtsp_message.specs.Intakes.{weight}
use Rattle.relay_talk.proofs.Fetching.{Skips}
use Rattle.relay_talk.proofs.talker.skip_frames.Given as goal

abbrev pub invariant-loop-heard : goal.invariant-loop-heard
invariant-loop-heard g l = record {
  skips : Skips g.S.Source.incoming l.fn.intake l.intake l.fn.heard l.heard;
  left : weight g.S.Source.bound l.intake ≤ weight g.S.Source.bound l.fn.intake;
}

abbrev pub decreases-loop-heard : goal.decreases-loop-heard
decreases-loop-heard g l = weight g.S.Source.bound l.intake
