use Rattle.std.proofs.Common.{◌≡◌, ℕ, suc, ◌+◌, ◌-◌, ◌%◌, ◌^◌, ◌<◌, length, eqb, sym, ◌∙◌, subst, arith}
use mathlib.Core.Logic.{inl, inr}
use prog.Atomic.{either}
use Rattle.packet_ring.specs.Table.{AllowsBeside, no_right}
use Rattle.packet_ring.specs.Rule.{Knows, View, Holds}
use Rattle.packet_ring.specs.Operation.{Operation}
use Rattle.packet_ring.specs.Steps.{Begins, log_of, publisher_of, seat_of}
use Rattle.packet_ring.proofs.Begun.{begin_beside_allows}
use Rattle.packet_ring.proofs.sending.begin_beside.Goals as goal

pub compare_exchange_beside-requires : goal.compare_exchange_beside-requires
compare_exchange_beside-requires g c = let z = c.args.block.now.id in let me : Knows = c.args.token.now.me in let log = log_of me.view in let p = publisher_of me.view in let is = c.requires.publisher.0 in let many : 1 < z.units = c.requires.same.1 in let keep : ℕ = z.units - 2 in
    let seat = c.requires.seat.1 in let its : View = c.args.seat.now.me.view in let x = seat_of its in
    let m₀ : Knows = record { view = inl (log, p); right = no_right; seen = me.seen } in let is_me : m₀ ≡ me = λ i. record { view = sym is.publisher i; right = sym c.requires.publisher.1 i; seen = me.seen } in
    let unit : suc (length log % (keep + 1)) ≡ c.args.unit = (let r : suc (length log % (keep + 1)) ≡ length log % (keep + 1) + 1 = omega arith in r) ∙ sym c.requires.unit.0 in
    let Out : ℕ → ℕ → View → ℕ → Knows → ℕ → Type 0 = λ n k v u m known. AllowsBeside (Holds z.limits) (Operation z.limits) z.units n m k v u (λ (l : ℕ). either (eqb l known) (known + 2 ^ 16) l) (λ found next. Begins z.limits.0 u log p g.N.Sends.packet known m found next × (found ≡ known)) in (
      c.requires.same.0,
      c.requires.seat.0,
      c.requires.unit.1,
      c.requires.unit.2,
      subst (λ (n : ℕ). Out n c.args.seat.now.number its c.args.unit me c.args.known) (sym is.at) (subst (λ (k : ℕ). Out 0 k its c.args.unit me c.args.known) (sym seat.at) (subst (λ (v : View). Out 0 (suc seat.place) v c.args.unit me c.args.known) (sym seat.seat)
          (subst (λ (m : Knows). Out 0 (suc seat.place) (inr x) c.args.unit m c.args.known) is_me (subst (λ (u : ℕ). Out 0 (suc seat.place) (inr x) u m₀ c.args.known) unit
          (subst (λ (n : ℕ). Out 0 (suc seat.place) (inr x) (suc (length log % (keep + 1))) m₀ n) (sym c.requires.known.0)
          (begin_beside_allows z.units keep (omega arith) log p g.N.Sends.packet me.seen is.within c.requires.publisher.2 c.requires.packet seat.place x c.requires.seat.2 seat.within)))))),
    )
