use Rattle.rtsp_auth.proofs.WrittenAgain.{read_again}
use Rattle.rtsp_auth.proofs.laws.quoted.Goals as goal

pub returns : goal.returns
returns c = read_again
