use Rattle.mounts.proofs.OneAnswer.{one_rest, one_track}
use Rattle.mounts.proofs.laws.one_track.Goals as goal

pub returns-clause-rest : goal.returns-clause-rest
returns-clause-rest c path name rest other a b = one_rest path name rest other a b

pub returns-clause-track : goal.returns-clause-track
returns-clause-track c mount connection target number other few a b = one_track mount connection target number other few a b
