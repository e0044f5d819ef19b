use Rattle.std.proofs.Common.{◌≡◌, ◌+◌, arith}
use Rattle.cursor.specs.Account.{lost}
use Rattle.player.proofs.Outgoing.{lost_since}
use Rattle.player.proofs.holding.relay_out_held.Goals as goal

pub overflow_sub-report : goal.overflow_sub-report
overflow_sub-report g c =
    let takes = c.relay_held_takes-report.ensures.takes in
    let more : c.account.result.lost ≡ c.account-before.result.lost + lost takes.answers =
    lost_since _ _ g.met.T.Tap.counts _ _ _ _ c.account-before.ensures c.account.ensures takes.answers takes.run in
    omega arith

pub returns-clause-relays : goal.returns-clause-relays
returns-clause-relays g c =
    let takes = c.relay_held_takes-report.ensures.takes in
    let more : c.account.result.lost ≡ c.account-before.result.lost + lost takes.answers =
    lost_since _ _ g.met.T.Tap.counts _ _ _ _ c.account-before.ensures c.account.ensures takes.answers takes.run in
    record {
      takes = record { answers = takes.answers; run = takes.run; ends = takes.ends; out = takes.out; skipped = takes.skipped };
      lost = omega arith;
    }
