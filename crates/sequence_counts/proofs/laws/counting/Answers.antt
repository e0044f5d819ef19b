use Rattle.std.proofs.Common.{◌∙◌, sym}
use Rattle.sequence_counts.specs.Counts.{nothing_counted}
use Rattle.sequence_counts.proofs.Reaching.{reached}
use Rattle.sequence_counts.proofs.Stepping.{after, counted_all, is_after}
use Rattle.sequence_counts.proofs.laws.counting.Goals as goal

pub returns-clause-always : goal.returns-clause-always
returns-clause-always c events = (after nothing_counted events, counted_all events)

pub returns-clause-once : goal.returns-clause-once
returns-clause-once c events one other counted more = is_after counted ∙ sym (is_after more)

pub returns-clause-reached : goal.returns-clause-reached
returns-clause-reached c = reached
