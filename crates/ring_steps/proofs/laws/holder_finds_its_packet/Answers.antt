use Rattle.ring_steps.proofs.Reading.{own_packet}
use Rattle.ring_steps.proofs.laws.holder_finds_its_packet.Goals as goal

pub returns : goal.returns
returns c = λ s i x is. own_packet s i x is.sound is.there is.holds
