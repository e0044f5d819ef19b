use Rattle.rtsp_message.specs.Intakes.{weight}
use Rattle.relay_accounts.proofs.Dropping.{Drops}
use Rattle.relay_accounts.proofs.incoming.skip_frames.Given as goal

-- the frames so far were dropped and counted
abbrev pub invariant-loop-counts : goal.invariant-loop-counts
invariant-loop-counts g l = Drops g.S.Source.incoming l.fn.intake l.intake l.fn.counts l.counts

abbrev pub decreases-loop-counts : goal.decreases-loop-counts
decreases-loop-counts g l = weight g.S.Source.bound l.intake
