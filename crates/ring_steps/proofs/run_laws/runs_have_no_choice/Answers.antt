use Rattle.ring_steps.proofs.Choices.{runs_alike}
use Rattle.ring_steps.proofs.run_laws.runs_have_no_choice.Goals as goal

pub returns-clause-turns : goal.returns-clause-turns
returns-clause-turns c = λ script old turns others end other a b by. (runs_alike script old turns others end other a b by).turns_same

pub returns-clause-end : goal.returns-clause-end
returns-clause-end c = λ script old turns others end other a b by. (runs_alike script old turns others end other a b by).ends_same
