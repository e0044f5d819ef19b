use Rattle.std.proofs.Common.{ℕ, ◌+◌, ◌-◌, sym, subst, zero-mul}
use Rattle.packet_ring.specs.Table.{Allows}
use Rattle.packet_ring.specs.Rule.{Holds}
use Rattle.packet_ring.specs.Operation.{Operation}
use Rattle.packet_ring.specs.Steps.{Loads, detached, seat_of}
use Rattle.packet_ring.proofs.Heads.{detaches}
use Rattle.packet_ring.proofs.head.detach.Goals as goal

pub load-requires : goal.load-requires
load-requires c = let z = c.args.block.now.id in let me = c.args.token.now.me in let x = seat_of me.view in let is = c.requires.seat in (
  c.requires.same.0,
  c.requires.same.1,
  sym (zero-mul (z.width + 1)),
  subst (λ (n : ℕ). Allows (Holds z.limits) (Operation z.limits) z.units n me 0 (λ m. m) (Loads (z.units - 2) detached x me)) (sym is.at) (detaches z.units is.place x me is.seat is.within),
)
