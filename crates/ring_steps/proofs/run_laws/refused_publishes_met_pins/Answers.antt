use Rattle.ring_steps.proofs.Meeting.{move_meets}
use Rattle.ring_steps.proofs.run_laws.refused_publishes_met_pins.Goals as goal

pub returns : goal.returns
returns c = λ script keep seats turns mid new t low ran move. move_meets script keep seats turns mid new t low ran move
