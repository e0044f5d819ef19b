use Rattle.networks.proofs.Groups.{same_group}
use Rattle.networks.proofs.laws.groups.Goals as goal

pub returns : goal.returns
returns c = same_group
