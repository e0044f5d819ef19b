use Rattle.std.proofs.Common.{◌≡◌, ◌++◌, map, drop}
use Rattle.thread_health.specs.Late.{after_look}
use Rattle.thread_health.proofs.health.seen_after.Given as goal

-- the threads that were looked at and those that are left are all threads
abbrev pub invariant-loop-look : goal.invariant-loop-look
invariant-loop-look l = l.seen.items ++ map (after_look l.old l.now) (drop l.look-index l.looks) ≡ map (after_look l.old l.now) l.looks
