use Rattle.std.proofs.Common.{refl}
use Rattle.sequence_counts.specs.Counts.{nothing_counted}
use Rattle.sequence_counts.specs.Counting.Counted.{nothing}
use Rattle.sequence_counts.proofs.counts.SequenceCounts.new.Goals as goal

pub returns-clause-counts : goal.returns-clause-counts
returns-clause-counts c = record { exact = nothing_counted; counted = nothing; capped_is = refl }
