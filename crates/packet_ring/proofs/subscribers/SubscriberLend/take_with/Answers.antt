use Rattle.std.proofs.Common.{◌≡◌, ℕ, refl, sym, ap, ◌∙◌, subst, arith}
use Rattle.cursor.specs.declared.takes.Account.{Account}
use Rattle.packet_ring.specs.declared.allocated.Block.{Block}
use Rattle.packet_ring.specs.Calls.{TakesNext}
use Rattle.packet_ring.specs.Views.{IsSubscribed, Subscribing, keep_of, subscribing_of}
use Rattle.packet_ring.proofs.Seeing.{takes_any}
use Rattle.packet_ring.proofs.subscribers.SubscriberLend.take_with.Goals as goal

pub returns-clause-gives : goal.returns-clause-gives
returns-clause-gives g c = let s = c.self.inside in let t = s.token in let new = c.take_with-taken.new.token in let seen : ℕ = c.take_with-taken.result.1 in let keep : ℕ = c.deref-block.result.now.keep in let took = c.take_with-taken.ensures.takes in
    let sizes = c.deref-block.result.now.sizes in let units = sizes.units in let seated = c.self.invariant.seated in let id = seated.same in
    let is : IsSubscribed t.id t s.known s.account = record { seated = record { same = refl; seat = seated.seat; free = seated.free; has = seated.has; short = seated.short }; account = c.self.invariant.account; within = c.self.invariant.within } in
    let kept : keep_of t.id ≡ keep = ap keep_of (id ∙ ap (λ (b : Block). b.shared.id) (sym c.deref-block.ensures)) ∙ (let r : keep_of c.deref-block.result.now.shared.id ≡ keep = omega arith in r) in
    let given = takes_any t.id t new s.known seen keep s.account is c.take_with-taken.ensures.same.0 kept took.delivery took.given in record {
      delivery = took.delivery;
      answered = took.answered;
      given = subst (λ (p : Subscribing). TakesNext p took.delivery (subscribing_of new seen c.counted-self-inside.result)) c.self.view_is
          (subst (λ (a : Account). TakesNext (subscribing_of t s.known s.account) took.delivery (subscribing_of new seen a)) (sym (c.counted-self-inside.ensures took.delivery took.answered)) given);
      seen = took.seen;
    }
