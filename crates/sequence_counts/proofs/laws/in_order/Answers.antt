use Rattle.std.proofs.Common.{arith}
use Rattle.sequence_counts.proofs.Ordering.{in_order, last_is_more}
use Rattle.sequence_counts.proofs.laws.in_order.Goals as goal

pub returns-clause-missing : goal.returns-clause-missing
returns-clause-missing c ssrc number more counts rising counted =
    let all = in_order ssrc number more counts rising counted in
    let sum = all.missing in
    let above = last_is_more number more rising in
    omega arith

pub returns-clause-late : goal.returns-clause-late
returns-clause-late c ssrc number more counts rising counted = (in_order ssrc number more counts rising counted).late

pub returns-clause-restarts : goal.returns-clause-restarts
returns-clause-restarts c ssrc number more counts rising counted = (in_order ssrc number more counts rising counted).restarts
