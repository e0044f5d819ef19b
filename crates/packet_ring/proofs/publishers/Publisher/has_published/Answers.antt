use Rattle.std.proofs.Common.{ℕ, false, ◌≡◌, subst, take}
use mathlib.Core.List.{IsPrefix}
use Rattle.packet_ring.specs.Steps.{HasSeen, log_of}
use Rattle.packet_ring.specs.Views.{Known, Publishing, packets_from}
use Rattle.packet_ring.proofs.Published.{was_published}
use Rattle.packet_ring.proofs.publishers.Publisher.has_published.Goals as goal

pub returns-clause-published : goal.returns-clause-published
returns-clause-published c = let me = c.self.inside.token.me in let is = c.self.invariant in let k = c.known.inside in
    let all = was_published c.self.inside.token.number me k.told.log k.length is.publisher.at is.publisher.publisher is.goes_on (subst (λ (n : ℕ). HasSeen n (log_of me.view)) is.counted is.full) c.known.invariant.has c.compare.ensures.sighted in
    subst (λ (q : Known). IsPrefix q.log c.args.self.now.log) c.known.view_is (subst (λ (p : Publishing). IsPrefix (packets_from (take k.length k.told.log)) p.log) c.self.view_is all.begins)

pub returns-clause-open : goal.returns-clause-open
returns-clause-open c = let me = c.self.inside.token.me in let is = c.self.invariant in let k = c.known.inside in
    let all = was_published c.self.inside.token.number me k.told.log k.length is.publisher.at is.publisher.publisher is.goes_on (subst (λ (n : ℕ). HasSeen n (log_of me.view)) is.counted is.full) c.known.invariant.has c.compare.ensures.sighted in
    subst (λ (q : Known). q.closed ≡ false) c.known.view_is all.goes_on
