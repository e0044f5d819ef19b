use Rattle.std.proofs.Common.{ℕ, ◌+◌, ◌-◌, ◌<◌, sym, subst, zero-mul, arith}
use Rattle.packet_ring.specs.Table.{Allows}
use Rattle.packet_ring.specs.Rule.{Holds}
use Rattle.packet_ring.specs.Operation.{Operation}
use Rattle.packet_ring.specs.Steps.{Loads, attached, seat_of}
use Rattle.packet_ring.proofs.Heads.{attaches}
use Rattle.packet_ring.proofs.head.attach.Goals as goal

pub load-requires : goal.load-requires
load-requires c = let z = c.args.block.now.id in let me = c.args.token.now.me in let x = seat_of me.view in let is = c.requires.seat in let many : 1 < z.units = c.requires.same.1 in (
  c.requires.same.0,
  omega arith,
  sym (zero-mul (z.width + 1)),
  subst (λ (n : ℕ). Allows (Holds z.limits) (Operation z.limits) z.units n me 0 (λ m. m) (Loads (z.units - 2) (attached (z.units - 2) c.args.back) x me)) (sym is.at) (attaches (z.units - 2) z.units (omega arith) c.args.back is.place x me is.seat is.within),
)
