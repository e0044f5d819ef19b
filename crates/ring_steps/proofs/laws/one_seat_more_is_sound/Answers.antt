use Rattle.ring_steps.proofs.Opening.{seat_more_keeps}
use Rattle.ring_steps.proofs.laws.one_seat_more_is_sound.Goals as goal

pub returns : goal.returns
returns c = seat_more_keeps
