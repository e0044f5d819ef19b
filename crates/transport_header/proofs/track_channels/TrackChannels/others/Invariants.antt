use Rattle.std.proofs.Common.{◌≡◌, ◌<◌, ◌*◌, ◌≤◌, length}
use Rattle.transport_header.proofs.OtherTracks.{AreOthersBelow}
use Rattle.transport_header.proofs.track_channels.TrackChannels.others.Given as goal

abbrev pub invariant-loop-other : goal.invariant-loop-other
invariant-loop-other l = record {
  tracks : 0 < l.other → length l.self ≡ 16;
  few : length l.others ≤ 2 * l.other;
  channels : AreOthersBelow l.self l.track l.other l.others;
}
