use Rattle.outgoing.proofs.Bounding.{room_bound}
use Rattle.outgoing.proofs.laws.rooms.Goals as goal

pub returns : goal.returns
returns c = room_bound
