use Rattle.transport_header.proofs.TagTables.{none_set_up}
use Rattle.transport_header.proofs.track_channels.TrackChannels.new.Goals as goal

pub invariant_of-result : goal.invariant_of-result
invariant_of-result c = none_set_up
