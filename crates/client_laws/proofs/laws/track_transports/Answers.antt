use Rattle.client_laws.proofs.TrackTransports.{of_track}
use Rattle.client_laws.proofs.laws.track_transports.Goals as goal

pub returns : goal.returns
returns c = of_track
