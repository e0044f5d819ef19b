use Rattle.relay_accounts.proofs.Dropping.{drops_more}
use Rattle.relay_accounts.proofs.incoming.skip_frames.Goals as goal

pub loop-counts-preserved-in-Unit-Frame : goal.loop-counts-preserved-in-Unit-Frame
loop-counts-preserved-in-Unit-Frame g c =
    let out = rw c.in-Unit-Frame.field-0-is at c.in-Unit-Frame.ensures.hands_out in
    drops_more g.S.Source.incoming _ _ _ _ _ _ c.in-Unit-Frame.field-0-0 c.loop-counts.invariant out c.add_stranger.ensures
