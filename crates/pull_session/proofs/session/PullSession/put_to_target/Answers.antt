use Rattle.std.proofs.Common.{rules, subst, ap}
use Rattle.std.specs.Result.{OnOk}
use Rattle.outgoing.specs.Queues.{Queue}
use Rattle.pull_session.specs.Asks.{PutsRequests}
use Rattle.pull_session.specs.Tries.{Try}
use Rattle.pull_session.proofs.session.PullSession.put_to_target.Goals as goal

pub returns-clause-put : goal.returns-clause-put
returns-clause-put c =
    subst (λ (queue : Queue). OnOk c.put_to.result (PutsRequests c.args.self.now.mount queue c.put_to.new.waiting))
    (ap (λ (session : Try). session.target.waiting) c.self.view_is)
    (c.put_to.ensures.put c.args.self.now.mount (record {
      ask = c.args.ask.now;
      side = c.requires;
      places = c.places_of-places.result;
      mount_is = search rules;
      is = c.in-Ok.ensures;
    }))
