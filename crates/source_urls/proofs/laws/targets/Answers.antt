use Rattle.source_urls.proofs.Targets.{alone, is_accepted}
use Rattle.source_urls.proofs.laws.targets.Goals as goal

pub returns : goal.returns
returns c = record { alone = alone; accepted = is_accepted }
