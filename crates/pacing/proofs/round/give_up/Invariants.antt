use Rattle.std.proofs.Common.{◌≡◌, ◌++◌, map, take, drop}
use Rattle.pacing.specs.Rounds.{given_up}
use Rattle.pacing.proofs.round.give_up.Given as goal

-- those before the place were given up
abbrev pub invariant-loop-place : goal.invariant-loop-place
invariant-loop-place l = l.players ≡ map given_up (take l.place l.initial.players) ++ drop l.place l.initial.players
