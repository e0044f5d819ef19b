use Rattle.sdp.proofs.OneReading.{written_same}
use Rattle.client_laws.proofs.Descriptions.{are_numbered}
use Rattle.client_laws.proofs.laws.descriptions.Goals as goal

pub returns : goal.returns
returns c = λ old new good some reads. are_numbered 0 old.tracks new.tracks (written_same old new good some reads)
