use Rattle.ring_steps.proofs.Alone.{ring_step_alone}
use Rattle.ring_steps.proofs.laws.steps_change_their_own_view.Goals as goal

pub returns : goal.returns
returns c = ring_step_alone
