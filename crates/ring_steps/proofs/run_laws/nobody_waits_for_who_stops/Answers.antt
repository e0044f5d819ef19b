use Rattle.ring_steps.proofs.GoingOn.{goes_on_without}
use Rattle.ring_steps.proofs.run_laws.nobody_waits_for_who_stops.Goals as goal

pub returns : goal.returns
returns c = goes_on_without
