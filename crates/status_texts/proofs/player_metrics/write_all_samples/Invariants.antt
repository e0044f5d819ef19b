use Rattle.std.proofs.Common.{◌≡◌, ◌++◌, length, take, drop}
use Rattle.std.specs.List.{flat_map}
use Rattle.status_texts.specs.Players.{player_samples}
use Rattle.status_texts.proofs.player_metrics.write_all_samples.Given as goal

-- the text so far and that of the players left are the whole text
abbrev pub invariant-loop-seat : goal.invariant-loop-seat
invariant-loop-seat l = record {
  told : l.out.items ++ flat_map (player_samples l.metric l.family) (drop l.seat-index l.seats) ≡ l.fn.out.items ++ flat_map (player_samples l.metric l.family) l.seats;
  kept : take (length l.fn.out.items) l.out.items ≡ l.fn.out.items;
}
