use Rattle.std.proofs.Common.{refl}
use Rattle.transport_header.proofs.Free.{spoils}
use Rattle.transport_header.proofs.channels.Channels.least_free_pair.Goals as goal

pub loop-half-preserved : goal.loop-half-preserved
loop-half-preserved c = spoils c.args.self.now c.loop-half.half _ c.loop-half.invariant refl c.if-is_free_at.ensures
