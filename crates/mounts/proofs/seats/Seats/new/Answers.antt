use Rattle.std.proofs.Common.{◌≡◌, false, replicate, rules, vec_capacity}
use Rattle.mounts.proofs.FreeSeats.{new_are_free}
use Rattle.mounts.proofs.seats.Seats.new.Goals as goal

pub invariant_of-result : goal.invariant_of-result
invariant_of-result c =
    let made = new_are_free c.args.count c.in_ok-free.free.items (vec_capacity c.in_ok-free.free) c.requires c.in_ok-free.ensures.below c.in_ok-free.ensures.once
    c.in_ok-free.ensures.len c.in_ok-free.ensures.room in
    let out : c.in_ok-out.out.items ≡ replicate c.args.count false = search rules in
    rw out made
