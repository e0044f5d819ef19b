use Rattle.std.proofs.Common.{◌∙◌, ap}
use Rattle.std.specs.Arc.{arc_value}
use Rattle.packet_ring.specs.Views.{Known, Publishing}
use Rattle.packet_ring.proofs.Published.{tells_log}
use Rattle.packet_ring.proofs.publishers.Publisher.known_log.Goals as goal

pub invariant_of-result : goal.invariant_of-result
invariant_of-result c = let p = c.self.inside in let told = c.tell-told.ensures in (tells_log (arc_value p.ring).shared.id p.token c.tell-told.new.self p.count c.tell-told.result.log c.self.invariant told.0 told.2 c.compare.ensures.sighted).known

pub returns-clause-known : goal.returns-clause-known
returns-clause-known c = let p = c.self.inside in let told = c.tell-told.ensures in
    let all = tells_log (arc_value p.ring).shared.id p.token c.tell-told.new.self p.count c.tell-told.result.log c.self.invariant told.0 told.2 c.compare.ensures.sighted in
    let ring = told.1 ∙ ap (λ (q : Publishing). q.ring) c.self.view_is in let log = all.same ∙ ap (λ (q : Publishing). q.log) c.self.view_is in
    (λ i. let k : Known = record { ring = ring i; log = log i; closed = all.goes_on i } in k)
