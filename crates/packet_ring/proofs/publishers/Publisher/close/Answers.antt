use Rattle.std.proofs.Common.{◌∙◌}
use Rattle.packet_ring.specs.Steps.{log_of}
use Rattle.packet_ring.proofs.Seeing.{closed_receipt}
use Rattle.packet_ring.proofs.publishers.Publisher.close.Goals as goal

pub invariant_of-result : goal.invariant_of-result
invariant_of-result c = let p = c.self.inside in let is = c.self.invariant in closed_receipt (log_of p.token.me.view) p.count c.tell.result.log is.counted is.full is.few (c.tell.ensures.2 ∙ c.close.ensures.step.seen)
