use Rattle.rtsp_message.proofs.OneReading.{one_reading}
use Rattle.rtsp_message.specs.declared.peer.Peer.TheVariants.{Client}
use Rattle.rtsp_message.proofs.laws.one_reading.Goals as goal

pub returns-clause-units : goal.returns-clause-units
returns-clause-units c stream us vs d e p q = (one_reading Client p q).0

pub returns-clause-ending : goal.returns-clause-ending
returns-clause-ending c stream us vs d e p q = (one_reading Client p q).1
