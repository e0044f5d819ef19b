use Rattle.rtsp_message.proofs.Receiving.{unit_received}
use Rattle.rtsp_message.proofs.laws.servers.Goals as goal

pub returns : goal.returns
returns c = unit_received
