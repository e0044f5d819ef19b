use Rattle.std.proofs.Common.{◌≡◌, map, drop}
use Rattle.relay_log.specs.Moments.{sooner_of}
use Rattle.relay_log.specs.Tallies.{due_at, earliest}
use Rattle.relay_log.proofs.tallies.first_due.Given as goal

-- the first of those before and of those that follow
abbrev pub invariant-loop-tally : goal.invariant-loop-tally
invariant-loop-tally l = sooner_of l.due (earliest (map due_at (drop l.tally-index l.tallies))) ≡ earliest (map due_at l.tallies)
