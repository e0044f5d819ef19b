use Rattle.std.proofs.Common.{length, arith}
use Rattle.mounts.proofs.Controls.{ends_at, stands_at}
use Rattle.mounts.proofs.names.ends_in_track.Goals as goal

pub returns-then-has_track_at : goal.returns-then-has_track_at
returns-then-has_track_at c = ends_at c.args.path.now c.loop-place.place c.loop-place-test.true c.if-has_track_at.ensures

pub returns : goal.returns
returns c h =
    let at = stands_at c.args.path.now h in
    let within = at.0 in
    c.loop-place.invariant (length h.front) (omega (arith, within)) at.1
