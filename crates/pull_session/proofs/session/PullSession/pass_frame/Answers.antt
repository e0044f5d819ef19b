use Rattle.std.proofs.Common.{Some, arith, inr, ap, take, drop, ◌∙◌}
use Rattle.std.proofs.lemmas.Grind.{common_steps}
use Rattle.rtsp_client.specs.Clients.{State}
use Rattle.pull_session.specs.Blocks.{frame_in}
use Rattle.pull_session.specs.Passing.{pass_state}
use Rattle.pull_session.specs.Tries.{Try}
use Rattle.pull_session.specs.declared.watch.Watch.{Watch}
use Rattle.pull_session.proofs.Losing.{loses}
use Rattle.pull_session.proofs.session.PullSession.pass_frame.Goals as goal

pub returns-else-is_ok-clause-taken : goal.returns-else-is_ok-clause-taken
returns-else-is_ok-clause-taken c =
    let old = c.args.self.now in
    let new = c.fail.new.self in
    let frame = frame_in (take c.args.size (drop c.args.at old.target.waiting.free)) in
    inr (loses frame c.args.now c.in-Waits.channel (pass_state old) (pass_state new) c.frame_fate.new.self.client c.in-Waits.ensures.counts c.in-Waits.ensures.others
    (c.fail.ensures.client ∙ ap (λ (s : State). record s { end = new.client.end }) (ap (λ (t : Try). t.client) c.self-in-Waits.view_is))
    c.fail.ensures.ends
    (grind (arith, common_steps))
    (c.fail.ensures.watch ∙ c.hears.ensures ∙ ap (λ (w : Watch). record w { heard = Some c.args.now }) (ap (λ (t : Try). t.watch) c.self-in-Waits.view_is ∙ c.in-Waits.ensures.watch)))
