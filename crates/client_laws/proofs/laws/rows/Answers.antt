use Rattle.client_laws.proofs.Rows.{names_track, uri_target}
use Rattle.client_laws.proofs.laws.rows.Goals as goal

pub returns : goal.returns
returns c = record { uri = uri_target; tracks = names_track }
