use Rattle.std.proofs.Common.{ℕ, ◌+◌, ◌*◌, ◌<◌, ◌^◌, sym, ap, subst, zero-mul}
use Rattle.packet_ring.specs.Table.{Allows}
use Rattle.packet_ring.specs.Rule.{Holds}
use Rattle.packet_ring.specs.Operation.{Operation}
use Rattle.packet_ring.specs.Steps.{Appends, log_of, publisher_of}
use Rattle.packet_ring.proofs.Heads.{appends}
use Rattle.packet_ring.proofs.head.append.Goals as goal

pub store-requires : goal.store-requires
store-requires c = let z = c.args.block.now.id in let me = c.args.token.now.me in let log = log_of me.view in let p = publisher_of me.view in let is = c.requires.publisher in let n = 2 * (c.args.len + 1) in (
  c.requires.same.0,
  c.requires.same.1,
  sym (zero-mul (z.width + 1)),
  subst (λ (k : ℕ). Allows (Holds z.limits) (Operation z.limits) z.units k me 0 (λ m. n) (λ m. Appends log p me)) (sym is.at)
      (appends z.units log p me n is.publisher is.within (subst (λ (k : ℕ). k < 2 ^ 46) c.requires.len.0 c.requires.len.1) (ap (λ (k : ℕ). 2 * (k + 1)) c.requires.len.0)),
)
