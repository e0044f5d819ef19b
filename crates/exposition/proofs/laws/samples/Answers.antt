use Rattle.exposition.proofs.Samples.{same_labels, same_value}
use Rattle.exposition.proofs.laws.samples.Goals as goal

pub returns : goal.returns
returns c = record { labels = same_labels; value = same_value }
