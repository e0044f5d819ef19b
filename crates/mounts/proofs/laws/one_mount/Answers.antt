use Rattle.mounts.proofs.OneAnswer.{one_mount}
use Rattle.mounts.proofs.laws.one_mount.Goals as goal

pub returns-clause-number : goal.returns-clause-number
returns-clause-number c mounts path number other rest behind a b = (one_mount mounts path number other rest behind a b).0

pub returns-clause-rest : goal.returns-clause-rest
returns-clause-rest c mounts path number other rest behind a b = (one_mount mounts path number other rest behind a b).1
