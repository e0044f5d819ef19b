use Rattle.std.proofs.Common.{[]}
use Rattle.rtsp_message.specs.declared.peer.Peer.TheVariants.{Server}
use Rattle.rtsp_message.specs.Stream.{Waits}
use Rattle.rtsp_message.proofs.Compose.{nothing_reads, pieces_compose}
use Rattle.rtsp_message.proofs.OneReading.{one_reading}
use Rattle.client_laws.proofs.laws.a_server_is_read_in_one_way.Goals as goal

pub returns-clause-units : goal.returns-clause-units
returns-clause-units c stream us vs d e p q = (one_reading Server p q).0

pub returns-clause-ending : goal.returns-clause-ending
returns-clause-ending c stream us vs d e p q = (one_reading Server p q).1

pub returns-clause-pieces : goal.returns-clause-pieces
returns-clause-pieces c pieces units e p = pieces_compose Server [] [] (Waits []) pieces units e (nothing_reads Server) p
