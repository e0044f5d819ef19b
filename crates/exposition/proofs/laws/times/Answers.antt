use Rattle.exposition.proofs.Times.{seconds_are}
use Rattle.exposition.proofs.laws.times.Goals as goal

pub returns : goal.returns
returns c = seconds_are
