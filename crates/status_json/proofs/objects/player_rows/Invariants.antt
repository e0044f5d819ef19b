use Rattle.std.proofs.Common.{◌≡◌, ◌++◌, not, filter, drop}
use Rattle.status_json.proofs.objects.player_rows.Given as goal

-- those so far and those left are all
abbrev pub invariant-loop-player : goal.invariant-loop-player
invariant-loop-player l = l.rows.items ++ filter (λ m. not m.has_left) (drop l.player-index l.snapshot.players.items) ≡ filter (λ m. not m.has_left) l.snapshot.players.items
