use Rattle.mounts.proofs.SoundRuns.{taken_once}
use Rattle.mounts.proofs.laws.seats_are_taken_once.Goals as goal

pub returns : goal.returns
returns c seats number seat before between table run none = taken_once seats number seat before between table run none
