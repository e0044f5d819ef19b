use Rattle.rtsp_auth.proofs.Firsts.{chosen_is, is_chosen, basic_is}
use Rattle.rtsp_auth.proofs.laws.choosing.Goals as goal

pub returns : goal.returns
returns c = record { first = chosen_is; only = is_chosen; basic = basic_is }
