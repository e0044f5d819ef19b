use Rattle.std.proofs.Common.{◌≡◌}
use Rattle.pull_session.specs.Asks.{PutsRequests}
use Rattle.pull_session.proofs.session.PullSession.ask_all.Given as goal

-- what was put so far are requests
abbrev pub invariant-loop : goal.invariant-loop
invariant-loop l = record {
  puts : PutsRequests l.fn.self.mount l.fn.self.target.waiting l.self.target.waiting;
  mount : l.self.mount ≡ l.fn.self.mount;
}
