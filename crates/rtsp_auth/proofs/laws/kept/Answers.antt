use Rattle.rtsp_auth.proofs.CleanItems.{chosen_clean}
use Rattle.rtsp_auth.proofs.laws.kept.Goals as goal

pub returns : goal.returns
returns c = chosen_clean
