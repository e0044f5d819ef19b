use Rattle.std.proofs.Common.{ℕ, List, subst, ◌∙◌}
use Rattle.pull_session.specs.Asks.{PutsRequests}
use Rattle.pull_session.proofs.Putting.{puts_more}
use Rattle.pull_session.proofs.session.PullSession.ask_all.Goals as goal

pub loop-preserved : goal.loop-preserved
loop-preserved c = record {
  puts = puts_more c.args.self.now.mount c.args.self.now.target.waiting c.loop.self.target.waiting c.ask_one.new.self.target.waiting c.loop.invariant.puts
      (subst (λ (mount : List ℕ). PutsRequests mount c.loop.self.target.waiting c.ask_one.new.self.target.waiting) c.loop.invariant.mount c.ask_one.ensures.target);
  mount = c.ask_one.ensures.mount ∙ c.loop.invariant.mount;
}

pub returns-then-not-ask_one-clause-target : goal.returns-then-not-ask_one-clause-target
returns-then-not-ask_one-clause-target c =
    puts_more c.args.self.now.mount c.args.self.now.target.waiting c.loop.self.target.waiting c.ask_one.new.self.target.waiting c.loop.invariant.puts
    (subst (λ (mount : List ℕ). PutsRequests mount c.loop.self.target.waiting c.ask_one.new.self.target.waiting) c.loop.invariant.mount c.ask_one.ensures.target)
