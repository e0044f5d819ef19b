use Rattle.std.proofs.Common.{◌≡◌, ℕ, suc, ◌+◌, ◌-◌, ◌%◌, ◌^◌, ◌<◌, List, length, sym, ap, ◌∙◌, subst, arith}
use mathlib.Core.Logic.{inl}
use Rattle.packet_ring.specs.Table.{Allows, may_end}
use Rattle.packet_ring.specs.Rule.{Knows, Holds}
use Rattle.packet_ring.specs.Operation.{Operation}
use Rattle.packet_ring.specs.Steps.{Finishes, log_of, publisher_of}
use Rattle.packet_ring.proofs.Finished.{finish_allows}
use Rattle.packet_ring.proofs.sending.finish.Goals as goal

pub fetch_add-requires : goal.fetch_add-requires
fetch_add-requires c = let z = c.args.block.now.id in let me : Knows = c.args.token.now.me in let log = log_of me.view in let p = publisher_of me.view in let is = c.requires.publisher.0 in let many : 1 < z.units = c.requires.same.1 in let keep : ℕ = z.units - 2 in
    let cells : List ℕ = c.requires.publisher.1.0 in let k : ℕ = c.args.k in
    let unit : suc (length log % (keep + 1)) ≡ c.args.unit = (let r : suc (length log % (keep + 1)) ≡ length log % (keep + 1) + 1 = omega arith in r) ∙ sym c.requires.unit.0 in
    let right : may_end (suc (length log % (keep + 1))) cells ≡ me.right = ap (λ (u : ℕ). may_end u cells) unit ∙ sym c.requires.publisher.1.1 in
    let m₀ : Knows = record { view = inl (log, p); right = may_end (suc (length log % (keep + 1))) cells; seen = me.seen } in let is_me : m₀ ≡ me = λ i. record { view = sym is.publisher i; right = right i; seen = me.seen } in
    let Out : ℕ → ℕ → Knows → Type 0 = λ n u m. Allows (Holds z.limits) (Operation z.limits) z.units n m u (λ (l : ℕ). (l + k) % 2 ^ 64) (λ _. Finishes log p m) in (
      c.requires.same.0,
      c.requires.unit.1,
      c.requires.unit.2,
      subst (λ (n : ℕ). Out n c.args.unit me) (sym is.at) (subst (λ (m : Knows). Out 0 c.args.unit m) is_me (subst (λ (u : ℕ). Out 0 u m₀) unit
          (finish_allows z.units keep (omega arith) log p cells me.seen k is.within c.requires.publisher.1.2 c.requires.more))),
    )
