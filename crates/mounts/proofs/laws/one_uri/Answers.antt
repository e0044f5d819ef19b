use Rattle.mounts.proofs.OneAnswer.{one_uri}
use Rattle.mounts.proofs.laws.one_uri.Goals as goal

pub returns : goal.returns
returns c text uri other a b = one_uri text uri other a b
