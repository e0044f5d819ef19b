use Rattle.ring_steps.proofs.EachOnce.{each_once}
use Rattle.ring_steps.proofs.run_laws.answered_calls_have_one_event.Goals as goal

pub returns : goal.returns
returns c = λ script keep seats turns end ran actor. each_once script keep seats turns end ran actor
