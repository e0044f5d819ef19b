use Rattle.std.proofs.Common.{◌≡◌, ◌∷◌, ◌++◌, [], arith, take_all}
use Rattle.std.proofs.lemmas.Grind.{common_steps}
use Rattle.cursor.proofs.Runs.{Replies-more, PlainRun-made, Run-append, Run-log_of}
use Rattle.cursor.proofs.histories.run.Goals as goal

pub loop-call-preserved : goal.loop-call-preserved
loop-call-preserved c =
    let pushed : c.push.new.self.items ≡ c.loop-call.replies.items ++ c.in_ok-reply.field-0 ∷ [] = grind (arith, common_steps) in
    record {
      replied = rw pushed (Replies-more _ c.args.calls.now c.loop-call.call-index _ _ c.call-item.result _ _ c.loop-call-test.true c.call-item.is c.loop-call.invariant.replied c.in_ok-reply.ensures.replied);
      len = grind (arith, common_steps);
      room = omega (arith, c.push.ensures.capacity);
    }

pub returns-clause-plain : goal.returns-clause-plain
returns-clause-plain c =
    let replied = rw (take_all c.loop-call.call-index c.args.calls.now c.loop-call-test.false) at c.loop-call.invariant.replied in
    PlainRun-made _ _ _ _ replied

pub returns-clause-history : goal.returns-clause-history
returns-clause-history c =
    let replied = rw (take_all c.loop-call.call-index c.args.calls.now c.loop-call-test.false) at c.loop-call.invariant.replied in
    Run-log_of _ _ _ (PlainRun-made _ _ _ _ replied)

pub returns-clause-legal : goal.returns-clause-legal
returns-clause-legal c =
    let replied = rw (take_all c.loop-call.call-index c.args.calls.now c.loop-call-test.false) at c.loop-call.invariant.replied in
    λ seats before legal. Run-append _ _ before _ _ _ legal (Run-log_of _ _ _ (PlainRun-made _ _ _ _ replied))
