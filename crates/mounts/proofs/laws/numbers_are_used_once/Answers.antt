use Rattle.mounts.proofs.SoundRuns.{next_rises, stays_ended}
use Rattle.mounts.proofs.laws.numbers_are_used_once.Goals as goal

pub returns-clause-next : goal.returns-clause-next
returns-clause-next c old new changes run = next_rises old changes new run

pub returns-clause-ended : goal.returns-clause-ended
returns-clause-ended c old new changes number run given none = stays_ended number old changes new run given none
