use Rattle.std.proofs.Common.{◌∷◌, ◌∙◌, arith}
use Rattle.packet_ring.specs.Steps.{log_of}
use Rattle.packet_ring.proofs.Seeing.{open_receipt}
use Rattle.packet_ring.proofs.publishers.Publisher.publish_unpinned.Goals as goal

pub invariant_of-result : goal.invariant_of-result
invariant_of-result c = let p = c.self.inside in let is = c.self.invariant in let few = is.few in let unworn = c.if-self-eq-MOST_PACKETS.false in
    open_receipt (log_of p.token.me.view) (c.args.tag ∷ c.args.bytes.now) p.count c.tell.result.log is.counted is.full (omega arith) (omega arith) (c.tell.ensures.2 ∙ c.publish_beside.ensures.published.seen)
