use Rattle.ring_steps.proofs.Located.{acts_within}
use Rattle.ring_steps.proofs.run_laws.calls_act_within_themselves.Goals as goal

pub returns : goal.returns
returns c = acts_within
