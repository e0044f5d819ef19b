use Rattle.std.proofs.Common.{ap, ◌∙◌}
use Rattle.publisher.specs.Rtp.{point_of}
use Rattle.publisher.proofs.Incoming.{point_moves}
use Rattle.publisher.proofs.offering.publish_frame.Goals as goal

pub returns-then-rtp-2-clause-points : goal.returns-then-rtp-2-clause-points
returns-then-rtp-2-clause-points g c =
    point_moves c.args.points.now _ c.from.result c.point_of.result c.if-rtp-2.true c.from.ensures (c.point_of.ensures ∙ ap point_of c.as_slice-payload.ensures)
