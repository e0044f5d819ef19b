use Rattle.std.proofs.Common.{◌≡◌, ◌+◌, take}
use Rattle.relay_log.specs.Orders.{losers}
use Rattle.relay_log.proofs.reports.told.room_ends.Given as goal

-- each of those before the place that has lost packets took one line of the room
abbrev pub invariant-loop-place : goal.invariant-loop-place
invariant-loop-place l = l.left + losers (take l.place l.players) ≡ l.room
