use Rattle.std.proofs.Common.{◌∙◌}
use Rattle.player.proofs.Outgoing.{is_cut, is_empty, is_ended, sends, skips, loses}
use Rattle.player.proofs.holding.relay_held_takes.Goals as goal
use Rattle.player.proofs.holding.relay_held_takes.Goals.{in-Sent, in-Skipped, in-Lost}

pub returns-in-Cut-clause-takes : goal.returns-in-Cut-clause-takes
returns-in-Cut-clause-takes g c =
    let step = rw c.in-Cut.is at c.relay_one.ensures.step in
    rw c.report_of.ensures (is_cut _ _ _ _ _ _ _ _ _ _ _ _ _ _ _ _ c.loop.invariant.so_far step.3 step.4 c.loop-test.true step.5 step.6)

pub returns-in-Empty-clause-takes : goal.returns-in-Empty-clause-takes
returns-in-Empty-clause-takes g c =
    let step = rw c.in-Empty.is at c.relay_one.ensures.step in
    rw (c.report_of-in-Empty.ensures, step.1) (is_empty _ _ _ _ _ _ _ _ _ _ _ c.loop.invariant.so_far c.loop-test.true step.0)

pub returns-in-Ended-clause-takes : goal.returns-in-Ended-clause-takes
returns-in-Ended-clause-takes g c =
    let step = rw c.in-Ended.is at c.relay_one.ensures.step in
    rw (c.report_of-in-Ended.ensures, step.1) (is_ended _ _ _ _ _ _ _ _ _ _ _ c.loop.invariant.so_far c.loop-test.true step.0)

pub loop-preserved : goal.loop-preserved
loop-preserved g c =
    let before = c.loop.invariant in
    let bytes = c.relay_one.ensures.same ∙ before.bytes in
    elim c.match-relay_one.branch [
      | in-Sent w ↦
          let step = rw w.in-Sent.is at c.relay_one.ensures.step in
          record {
            so_far = rw (w.sent-is, w.skipped-is) (sends _ _ _ _ _ _ _ _ _ _ _ _ _ _ before.so_far step.3 step.4 step.5);
            bytes = bytes;
            working = (rw w.in-Sent.is at c.relay_one.ensures.working) ∙ before.working;
          }
      | in-Skipped w ↦
          let step = rw w.in-Skipped.is at c.relay_one.ensures.step in
          record {
            so_far = rw (w.sent-is, w.skipped-is, step.4) (skips _ _ _ _ _ _ _ _ _ _ _ _ before.so_far step.2 step.3);
            bytes = bytes;
            working = (rw w.in-Skipped.is at c.relay_one.ensures.working) ∙ before.working;
          }
      | in-Lost w ↦
          let step = rw w.in-Lost.is at c.relay_one.ensures.step in
          record {
            so_far = rw (w.sent-is, w.skipped-is, step.2) (loses _ _ _ _ _ _ _ _ _ _ _ before.so_far step.1);
            bytes = bytes;
            working = (rw w.in-Lost.is at c.relay_one.ensures.working) ∙ before.working;
          }
    ]
