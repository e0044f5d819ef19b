use Rattle.rtsp_auth.proofs.Joined.{are_pieces, joined, only}
use Rattle.rtsp_auth.proofs.laws.cutting.Goals as goal

pub returns : goal.returns
returns c = record { uncut = are_pieces; joined = joined; only = only }
