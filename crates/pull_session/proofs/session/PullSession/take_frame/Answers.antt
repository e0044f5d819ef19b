use Rattle.std.proofs.Common.{Some, arith, inr, ap, ◌∙◌}
use Rattle.std.proofs.lemmas.Grind.{common_steps}
use Rattle.rtsp_client.specs.Clients.{State}
use Rattle.pull_session.specs.Passing.{pass_state}
use Rattle.pull_session.specs.Tries.{Try}
use Rattle.pull_session.specs.declared.watch.Watch.{Watch}
use Rattle.pull_session.proofs.Losing.{loses}
use Rattle.pull_session.proofs.session.PullSession.take_frame.Goals as goal

pub returns-then-is_err-clause-taken : goal.returns-then-is_err-clause-taken
returns-then-is_err-clause-taken c =
    let new = c.fail.new.self in
    inr (loses c.args.frame.now c.args.now c.in-Waits.channel (pass_state c.args.self.now) (pass_state new) c.count_frame.new.self.client c.in-Waits.ensures.counts c.in-Waits.ensures.others
    (c.fail.ensures.client ∙ ap (λ (s : State). record s { end = new.client.end }) (ap (λ (t : Try). t.client) c.self.view_is))
    c.fail.ensures.ends
    (grind (arith, common_steps))
    (c.fail.ensures.watch ∙ c.hears.ensures ∙ ap (λ (w : Watch). record w { heard = Some c.args.now }) (ap (λ (t : Try). t.watch) c.self.view_is ∙ c.in-Waits.ensures.watch)))
