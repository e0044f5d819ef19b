use Rattle.std.proofs.Common.{[]}
use Rattle.rtsp_message.specs.Stream.{Waits}
use Rattle.rtsp_message.proofs.Compose.{pieces_compose, nothing_reads}
use Rattle.rtsp_message.specs.declared.peer.Peer.TheVariants.{Client}
use Rattle.rtsp_message.proofs.laws.any_pieces.Goals as goal

pub returns : goal.returns
returns c pieces units e p = pieces_compose Client [] [] (Waits []) pieces units e (nothing_reads Client) p
