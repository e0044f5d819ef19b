use Rattle.std.proofs.Common.{◌≡◌, ◌≤◌, ◌+◌, length}
use Rattle.relay_accounts.specs.Capped.{capped}
use Rattle.relay_log.specs.Backlogs.{lost_with}
use Rattle.relay_log.proofs.backlog.Backlog.drop_all.Given as goal

-- what is counted so far, with what is lost by what still waits, of which there is one less after each turn
abbrev pub invariant-loop-turn : goal.invariant-loop-turn
invariant-loop-turn g l =
    (capped (l.self.missed + lost_with l.self.waiting) ≡ capped (l.fn.self.missed + lost_with l.fn.self.waiting))
    × (length l.self.waiting + l._turn ≤ 1024)
