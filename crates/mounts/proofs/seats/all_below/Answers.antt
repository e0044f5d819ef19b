use Rattle.std.proofs.Common.{◌≡◌, ◌<◌, ◌++◌, ◌∷◌, [], arith, subst, length-append}
use Rattle.std.specs.List.{AllByRecursion}
use Rattle.mounts.proofs.FreeSeats.{below_next, below_is_other}
use Rattle.mounts.proofs.Differing.{different_push}
use Rattle.mounts.proofs.seats.all_below.Goals as goal

pub loop-seat-preserved : goal.loop-seat-preserved
loop-seat-preserved c =
    let pushed : c.push.new.self.items ≡ c.loop-seat.all.items ++ c.loop-seat.seat ∷ [] = rw c.unwrap.ensures at c.push.ensures.items in
    let len = c.loop-seat.invariant.len in
    let enough = c.loop-seat.invariant.room in
    let grown = c.push.ensures.capacity in
    record {
      below = rw pushed (below_next c.loop-seat.seat c.loop-seat.all.items c.loop-seat.invariant.below);
      once = rw pushed (different_push c.loop-seat.all.items c.loop-seat.seat c.loop-seat.invariant.once
          (below_is_other c.loop-seat.seat c.loop-seat.all.items c.loop-seat.invariant.below));
      len = rw pushed (omega (arith, len, length-append c.loop-seat.all.items (c.loop-seat.seat ∷ [])));
      room = omega (arith, enough, grown);
    }

pub returns-clause-below : goal.returns-clause-below
returns-clause-below c =
    let end : c.loop-seat.seat ≡ c.args.count = omega arith in
    subst (λ n. AllByRecursion (λ k. k < n) c.loop-seat.all.items) end c.loop-seat.invariant.below
