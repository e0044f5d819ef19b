use Rattle.ring_script.proofs.OnePlan.{one_text}
use Rattle.ring_script.proofs.laws.one_trace.Goals as goal

pub returns : goal.returns
returns c = one_text
