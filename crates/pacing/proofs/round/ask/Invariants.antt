use Rattle.std.proofs.Common.{◌≡◌, ◌≤◌, ◌++◌, map, take, drop}
use Rattle.pacing.specs.Rounds.{asked, awaited}
use Rattle.pacing.proofs.round.ask.Given as goal

-- those before the place were asked and counted
abbrev pub invariant-loop-place : goal.invariant-loop-place
invariant-loop-place l = record {
  done : l.players ≡ map (asked l.target) (take l.place l.initial.players) ++ drop l.place l.initial.players;
  counted : l.count ≡ awaited (map (asked l.target) (take l.place l.initial.players));
  few : l.count ≤ l.place;
}
