use Rattle.std.proofs.Common.{[], ◌∷◌, ◌++◌}
use Rattle.sequence_counts.specs.Counting.{Packet, Recorded, packets}
use Rattle.sequence_counts.proofs.Stepping.{gives}
use Rattle.sequence_counts.proofs.laws.rows.Goals as goal

pub returns-clause-over_the_end : goal.returns-clause-over_the_end
returns-clause-over_the_end c = gives (Recorded ∷ packets 7 (65534 ∷ 65535 ∷ 1 ∷ []))

pub returns-clause-out_of_order : goal.returns-clause-out_of_order
returns-clause-out_of_order c = gives (Recorded ∷ packets 7 (1 ∷ 2 ∷ 4 ∷ 3 ∷ 5 ∷ []))

pub returns-clause-repeat : goal.returns-clause-repeat
returns-clause-repeat c = gives (Recorded ∷ packets 7 (7 ∷ 7 ∷ []))

pub returns-clause-most_ahead : goal.returns-clause-most_ahead
returns-clause-most_ahead c = gives (Recorded ∷ packets 7 (1 ∷ 3000 ∷ []))

pub returns-clause-too_far_ahead : goal.returns-clause-too_far_ahead
returns-clause-too_far_ahead c = gives (Recorded ∷ packets 7 (1 ∷ 3001 ∷ []))

pub returns-clause-most_behind : goal.returns-clause-most_behind
returns-clause-most_behind c = gives (Recorded ∷ packets 7 (200 ∷ 101 ∷ []))

pub returns-clause-too_far_behind : goal.returns-clause-too_far_behind
returns-clause-too_far_behind c = gives (Recorded ∷ packets 7 (200 ∷ 100 ∷ []))

pub returns-clause-after_a_pause : goal.returns-clause-after_a_pause
returns-clause-after_a_pause c = gives (Recorded ∷ packets 7 (5 ∷ []) ++ Recorded ∷ packets 7 (9 ∷ []))

pub returns-clause-another_source : goal.returns-clause-another_source
returns-clause-another_source c = gives (Recorded ∷ Packet 5 7 ∷ Packet 6 8 ∷ [])
