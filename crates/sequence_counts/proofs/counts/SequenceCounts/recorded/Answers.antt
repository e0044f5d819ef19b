use Rattle.std.proofs.Common.{subst, sym}
use Rattle.sequence_counts.specs.Counts.{Counts}
use Rattle.sequence_counts.specs.Counting.{AreCountsOf}
use Rattle.sequence_counts.proofs.Following.{after_record}
use Rattle.sequence_counts.proofs.counts.SequenceCounts.recorded.Goals as goal

pub returns-clause-counts : goal.returns-clause-counts
returns-clause-counts c events are =
    let old : Counts = record { highest = c.self.inside.highest; missing = c.self.inside.missing; late = c.self.inside.late; restarts = c.self.inside.restarts } in
    after_record events old (subst (AreCountsOf events) (sym c.self.view_is) are)
