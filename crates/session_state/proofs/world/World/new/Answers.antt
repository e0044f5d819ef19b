use Rattle.session_state.proofs.Coming.{opening}
use Rattle.session_state.proofs.world.World.new.Goals as goal

pub returns-clause-opening : goal.returns-clause-opening
returns-clause-opening c = opening c.args.seats c.new.result c.new-2.result.entries c.new.ensures c.new-2.ensures.empty
