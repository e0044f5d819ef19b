use Rattle.std.proofs.Common.{◌≡◌, length}
use Rattle.relay_log.proofs.reports.figures.figures_of_players.Given as goal

-- each player before this one has its figures
abbrev pub invariant-loop-player : goal.invariant-loop-player
invariant-loop-player g l = length l.figures.items ≡ l.player-index
