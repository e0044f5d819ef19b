use Rattle.std.proofs.Common.{◌≡◌, ◌++◌, map, filter, drop}
use Rattle.status_texts.specs.Players.{is_shown, seat_of, seats_of}
use Rattle.status_texts.proofs.seat_figures.seats_of.Given as goal

-- the figures so far and those of the players left are all figures
abbrev pub invariant-loop-player : goal.invariant-loop-player
invariant-loop-player l = l.seats.items ++ map seat_of (filter (is_shown l.players) (drop l.player-index l.players)) ≡ seats_of l.players
