use Rattle.rtsp_message.proofs.Compose.{readings_compose}
use Rattle.rtsp_message.specs.declared.peer.Peer.TheVariants.{Client}
use Rattle.rtsp_message.proofs.laws.readings_compose.Goals as goal

pub returns : goal.returns
returns c = readings_compose Client
