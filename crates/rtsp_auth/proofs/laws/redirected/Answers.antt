use Rattle.rtsp_auth.proofs.Tries.{not_home, not_written}
use Rattle.rtsp_auth.proofs.laws.redirected.Goals as goal

pub returns : goal.returns
returns c = record { answered = not_home; written = not_written }
