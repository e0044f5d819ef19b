use Rattle.ring_steps.specs.Runs.{start}
use Rattle.ring_steps.proofs.Potential.{steps_few}
use Rattle.ring_steps.proofs.run_laws.calls_make_few_atomic_steps.Goals as goal

pub returns : goal.returns
returns c = λ script keep seats turns end ran. steps_few script (start keep seats) turns end ran
