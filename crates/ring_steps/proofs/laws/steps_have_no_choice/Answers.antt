use Rattle.ring_steps.proofs.Stepping.{ring_step_one}
use Rattle.ring_steps.proofs.laws.steps_have_no_choice.Goals as goal

pub returns : goal.returns
returns c = ring_step_one
