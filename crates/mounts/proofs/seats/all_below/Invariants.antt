use Rattle.std.proofs.Common.{◌≡◌, ◌<◌, ◌≤◌, length}
use Rattle.std.specs.List.{AllByRecursion}
use Rattle.std.specs.Vec.{vec_capacity}
use Rattle.mounts.specs.Different.{AreDifferent}
use Rattle.mounts.proofs.seats.all_below.Given as goal

abbrev pub invariant-loop-seat : goal.invariant-loop-seat
invariant-loop-seat l = record {
  below : AllByRecursion (λ k. k < l.seat) l.all.items;
  once : AreDifferent l.all.items;
  len : length l.all.items ≡ l.seat;
  room : l.count ≤ vec_capacity l.all;
}
