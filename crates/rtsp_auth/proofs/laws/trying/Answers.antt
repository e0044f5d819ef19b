use Rattle.rtsp_auth.proofs.Tries.{again, once, same_nonce}
use Rattle.rtsp_auth.proofs.laws.trying.Goals as goal

pub returns : goal.returns
returns c = record { once = once; again = again; same_nonce = same_nonce }
