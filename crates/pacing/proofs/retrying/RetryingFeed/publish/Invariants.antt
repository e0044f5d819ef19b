use Rattle.std.specs.Prelude.{◌≡◌}
use Rattle.cursor.specs.Log.{packet_of}
use Rattle.pacing.specs.Retrying.{PinnedTimes, most_tries}
use Rattle.pacing.proofs.retrying.RetryingFeed.publish.Given as goal

-- all tries so far were refused as pinned
abbrev pub invariant-loop-number : goal.invariant-loop-number
invariant-loop-number g l = record {
  most : l.most ≡ most_tries l.fn.self.gave_up;
  pinned : PinnedTimes g.F.Feed.publish_gives l.number l.fn.self.feed (packet_of l.tag l.bytes) l.self-inside.feed;
  told : g.F.Feed.told l.self-inside.feed ≡ g.F.Feed.told l.fn.self.feed;
  gave_up : l.self-inside.gave_up ≡ l.fn.self.gave_up;
  bytes : g.F.Feed.packet_bytes l.self-inside.feed ≡ g.F.Feed.packet_bytes l.fn.self.feed;
}
