use Rattle.std.proofs.Common.{◌≡◌, ℕ, suc, ◌+◌, ◌-◌, ◌%◌, ◌^◌, ◌<◌, List, sym, ap, ◌∙◌, subst, arith}
use mathlib.Core.Logic.{inr}
use Rattle.ring_steps.specs.Ring.{cursor}
use Rattle.packet_ring.specs.Table.{Allows, may_read}
use Rattle.packet_ring.specs.Rule.{Knows, Holds}
use Rattle.packet_ring.specs.Operation.{Operation}
use Rattle.packet_ring.specs.Steps.{Unpins, took, next_packet, seat_of}
use Rattle.packet_ring.proofs.Pinned.{unpin_allows}
use Rattle.packet_ring.proofs.slots.unpin.Goals as goal

pub fetch_sub-requires : goal.fetch_sub-requires
fetch_sub-requires c = let z = c.args.block.now.id in let me : Knows = c.args.token.now.me in let x = seat_of me.view in let is = c.requires.seat.0 in let many : 1 < z.units = c.requires.same.1 in let keep : ℕ = z.units - 2 in
    let cells : List ℕ = c.requires.seat.1.0 in let p : List ℕ = next_packet me in
    let unit : suc (cursor x % (keep + 1)) ≡ c.args.unit = (let r : suc (cursor x % (keep + 1)) ≡ cursor x % (keep + 1) + 1 = omega arith in r) ∙ sym c.requires.unit.0 in
    let right : may_read (suc (cursor x % (keep + 1))) cells ≡ me.right = ap (λ (u : ℕ). may_read u cells) unit ∙ sym c.requires.seat.1.1 in
    let m₀ : Knows = record { view = inr x; right = may_read (suc (cursor x % (keep + 1))) cells; seen = me.seen } in let is_me : m₀ ≡ me = λ i. record { view = sym is.seat i; right = right i; seen = me.seen } in (
      c.requires.same.0,
      c.requires.unit.1,
      c.requires.unit.2,
      subst (λ (n : ℕ). Allows (Holds z.limits) (Operation z.limits) z.units n me c.args.unit (λ m. (m + (2 ^ 64 - 1)) % 2 ^ 64) (λ _. Unpins (took x p) me)) (sym is.at)
          (subst (λ (m : Knows). Allows (Holds z.limits) (Operation z.limits) z.units (suc is.place) m c.args.unit (λ m. (m + (2 ^ 64 - 1)) % 2 ^ 64) (λ _. Unpins (took x p) m)) is_me
          (subst (λ (u : ℕ). Allows (Holds z.limits) (Operation z.limits) z.units (suc is.place) m₀ u (λ m. (m + (2 ^ 64 - 1)) % 2 ^ 64) (λ _. Unpins (took x p) m₀)) unit
          (unpin_allows z.units keep is.place (omega arith) x me.seen cells p is.within c.requires.packet))),
    )
