use Rattle.std.proofs.Common.{◌∷◌, ◌∙◌, arith}
use Rattle.std.specs.Arc.{arc_value}
use Rattle.packet_ring.specs.Steps.{log_of}
use Rattle.packet_ring.proofs.Seeing.{open_receipt}
use Rattle.packet_ring.proofs.Published.{still_publishing}
use Rattle.packet_ring.proofs.publishers.Publisher.publish.Goals as goal

pub invariant_of-result : goal.invariant_of-result
invariant_of-result c = let p = c.self.inside in let is = c.self.invariant in let few = is.few in let unworn = c.if-self-eq-MOST_PACKETS.false in
    open_receipt (log_of p.token.me.view) (c.args.tag ∷ c.args.bytes.now) p.count c.tell.result.log is.counted is.full (omega arith) (omega arith) (c.tell.ensures.2 ∙ c.in-Ok.ensures.published.seen)

pub invariant_of-self-in-Err : goal.invariant_of-self-in-Err
invariant_of-self-in-Err c = let p = c.self.inside in let same = c.publish.ensures.same in still_publishing (arc_value p.ring).shared.id p.token c.publish.new.token p.count _ _ c.self.invariant same.0 same.1 c.in-Err.ensures.pinned
