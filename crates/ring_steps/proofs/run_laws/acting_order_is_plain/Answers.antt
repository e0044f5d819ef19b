use Rattle.std.proofs.Common.{[]}
use Rattle.ring_steps.proofs.History.{history_plain, plain_at}
use Rattle.ring_steps.proofs.run_laws.acting_order_is_plain.Goals as goal

pub returns : goal.returns
returns c = λ script keep seats turns end low ran. (plain_at end.ring [], history_plain script keep seats turns end low ran)
