use Rattle.packet_ring.proofs.Received.{were_given}
use Rattle.packet_ring.proofs.laws.takes_are_received.Goals as goal

pub returns : goal.returns
returns c old new calls does within = were_given old new calls does within
