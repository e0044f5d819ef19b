use Rattle.std.proofs.Common.{◌≡◌, ◌≤◌, ◌<◌, ◌+◌, ◌^◌}
use Rattle.rtsp_message.specs.declared.intake.Next.{Next}
use Rattle.rtsp_message.specs.Intakes.{IsOver, weight}
use Rattle.publisher.specs.Fates.{total}
use Rattle.publisher.proofs.Incoming.{SoFarSeen}
use Rattle.publisher.proofs.relaying.relay_frames.Given as goal

abbrev pub invariant-loop-frame : goal.invariant-loop-frame
invariant-loop-frame g l = record {
  so_far : SoFarSeen g.S.Source.incoming g.F.Feed.publish_gives l.channels (g.F.Feed.packet_bytes l.fn.feed) g.F.Feed.may_refuse g.O.FateObserver.observes l.fn.intake l.intake l.fn.feed l.feed (g.F.Feed.told l.fn.feed) (g.F.Feed.told l.feed) l.fn.points l.points l.fn.observer l.observer l.report;
  bytes : g.F.Feed.packet_bytes l.feed ≡ g.F.Feed.packet_bytes l.fn.feed;
  left : weight g.S.Source.bound l.intake + total l.report ≤ weight g.S.Source.bound l.fn.intake;
  over : (answer : Next) → IsOver g.S.Source.failed l.fn.intake answer → IsOver g.S.Source.failed l.intake answer × (total l.report ≡ 0);
  few : weight g.S.Source.bound l.fn.intake < 2 ^ 64;
}

abbrev pub decreases-loop-frame : goal.decreases-loop-frame
decreases-loop-frame g l = weight g.S.Source.bound l.intake
