use Rattle.std.proofs.Common.{◌≡◌, ℕ, suc, ◌+◌, ◌-◌, ◌%◌, ◌^◌, ◌<◌, sym, ◌∙◌, subst, arith}
use mathlib.Core.Logic.{inr}
use Rattle.ring_steps.specs.Ring.{cursor}
use Rattle.packet_ring.specs.Table.{Allows, no_right}
use Rattle.packet_ring.specs.Rule.{Knows, Holds}
use Rattle.packet_ring.specs.Operation.{Operation}
use Rattle.packet_ring.specs.Steps.{Unpins, missed, seat_of}
use Rattle.packet_ring.proofs.Pinned.{unpin_failed_allows}
use Rattle.packet_ring.proofs.slots.unpin_failed.Goals as goal

pub fetch_sub-requires : goal.fetch_sub-requires
fetch_sub-requires c = let z = c.args.block.now.id in let me : Knows = c.args.token.now.me in let x = seat_of me.view in let is = c.requires.seat.0 in let many : 1 < z.units = c.requires.same.1 in let keep : ℕ = z.units - 2 in
    let m₀ : Knows = record { view = inr x; right = no_right; seen = me.seen } in let is_me : m₀ ≡ me = λ i. record { view = sym is.seat i; right = sym c.requires.seat.1 i; seen = me.seen } in
    let unit : suc (cursor x % (keep + 1)) ≡ c.args.unit = (let r : suc (cursor x % (keep + 1)) ≡ cursor x % (keep + 1) + 1 = omega arith in r) ∙ sym c.requires.unit.0 in (
      c.requires.same.0,
      c.requires.unit.1,
      c.requires.unit.2,
      subst (λ (n : ℕ). Allows (Holds z.limits) (Operation z.limits) z.units n me c.args.unit (λ m. (m + (2 ^ 64 - 1)) % 2 ^ 64) (λ _. Unpins (missed x) me)) (sym is.at)
          (subst (λ (m : Knows). Allows (Holds z.limits) (Operation z.limits) z.units (suc is.place) m c.args.unit (λ m. (m + (2 ^ 64 - 1)) % 2 ^ 64) (λ _. Unpins (missed x) m)) is_me
          (subst (λ (u : ℕ). Allows (Holds z.limits) (Operation z.limits) z.units (suc is.place) m₀ u (λ m. (m + (2 ^ 64 - 1)) % 2 ^ 64) (λ _. Unpins (missed x) m₀)) unit
          (unpin_failed_allows z.units keep is.place (omega arith) x me.seen is.within))),
    )
