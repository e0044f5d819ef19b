use Rattle.transport_header.proofs.RoundTrip.{round_trip}
use Rattle.transport_header.proofs.laws.answering.Goals as goal

pub returns : goal.returns
returns c = round_trip
