use Rattle.std.proofs.Common.{◌∙◌}
use Rattle.packet_ring.proofs.Rule.{fresh_places}
use Rattle.packet_ring.proofs.allocated.Block.new.Goals as goal

pub deal-shared-requires-clause-zeros : goal.deal-shared-requires-clause-zeros
deal-shared-requires-clause-zeros c = (c.fill.ensures.0 ∙ c.in_ok-start.ensures.0, c.fill.ensures.1 ∙ fresh_places c.args.keep 7 c.args.room)
