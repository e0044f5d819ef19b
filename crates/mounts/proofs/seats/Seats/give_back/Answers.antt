use Rattle.std.proofs.Common.{◌≡◌, ◌<◌, ◌++◌, ◌∷◌, [], Some, true, sym, subst, length, arith, slice_get, vec_capacity}
use Rattle.mounts.proofs.FreeSeats.{fewer_free, given_back}
use Rattle.mounts.proofs.seats.Seats.give_back.Goals as goal

pub unwrap-requires : goal.unwrap-requires
unwrap-requires c =
    let out : slice_get c.self.inside.out.items c.args.seat ≡ Some true = subst (λ out. slice_get out c.args.seat ≡ Some true) (sym c.self.view_is) c.requires in
    let few : length c.self.inside.free.items < vec_capacity c.self.inside.free =
    fewer_free c.self.inside.out.items c.args.seat c.self.inside.free.items (vec_capacity c.self.inside.free) c.self.invariant out in
    c.push.ensures.succeeds (omega arith)

pub invariant_of-self : goal.invariant_of-self
invariant_of-self c =
    let out : slice_get c.self.inside.out.items c.args.seat ≡ Some true = subst (λ out. slice_get out c.args.seat ≡ Some true) (sym c.self.view_is) c.requires in
    let pushed : c.push.new.self.items ≡ c.self.inside.free.items ++ c.args.seat ∷ [] = rw c.unwrap.ensures at c.push.ensures.items in
    rw pushed (given_back c.self.inside.out.items c.args.seat c.self.inside.free.items (vec_capacity c.self.inside.free) (vec_capacity c.push.new.self) c.self.invariant c.push.ensures.capacity out)
