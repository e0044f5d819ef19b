use Rattle.std.proofs.Common.{◌≡◌, take}
use Rattle.pacing.specs.Rounds.{slowest}
use Rattle.pacing.proofs.round.Round.slowest.Given as goal

-- the least of those so far
abbrev pub invariant-loop-player : goal.invariant-loop-player
invariant-loop-player l = l.least ≡ slowest (take l.player-index l.fn.self.players) l.published
