use Rattle.std.proofs.Common.{◌≡◌, map, drop}
use Rattle.relay_log.specs.Moments.{sooner_of}
use Rattle.relay_log.specs.Refusals.{due_of}
use Rattle.relay_log.specs.Tallies.{earliest}
use Rattle.relay_log.proofs.refused_requests.first_due_of.Given as goal

-- the first of those before and of those that follow
abbrev pub invariant-loop-entry : goal.invariant-loop-entry
invariant-loop-entry l = sooner_of l.due (earliest (map due_of (drop l.entry-index l.entries))) ≡ earliest (map due_of l.entries)
