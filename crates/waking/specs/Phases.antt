-- The phase of a frame thread.
use Rattle.std.specs.Prelude.{ℕ}
use Rattle.waking.specs.declared.phase.Phase.{Phase}
use Rattle.waking.specs.declared.phase.Phase.TheVariants.{Running, Stopping, Ended}

-- how far it has come
abbrev pub rank : Phase → ℕ
rank Running = 0
rank Stopping = 1
rank Ended = 2

-- it was requested to stop; one that has ended stays so
abbrev pub stopped : Phase → Phase
stopped Running = Stopping
stopped Stopping = Stopping
stopped Ended = Ended
