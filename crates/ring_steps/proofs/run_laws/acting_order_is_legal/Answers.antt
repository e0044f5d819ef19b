use Rattle.std.proofs.Common.{[], refl}
use Rattle.cursor.specs.Plain.{log_of}
use Rattle.ring_steps.proofs.History.{history_legal, plain_at}
use Rattle.ring_steps.proofs.run_laws.acting_order_is_legal.Goals as goal

pub returns : goal.returns
returns c = λ script keep seats turns end low ran. (log_of (plain_at end.ring []), refl, history_legal script keep seats turns end low ran)
