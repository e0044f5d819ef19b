-- A turn keeps the invariant, and so does a run.
use Rattle.std.proofs.Common.{List, [], ◌∷◌}
use Rattle.ring_steps.specs.declared.calls.Actor.{Actor}
use Rattle.ring_steps.specs.declared.calls.Actor.TheVariants.{P, Seat}
use Rattle.ring_steps.specs.Runs.{At, Calls, MoveBy, Ran, Turn}
use Rattle.ring_steps.specs.Slots.{Invariant}
use Rattle.ring_steps.proofs.Keeping.{publisher_step_keeps, seat_step_keeps}

pub move_keeps : (actor : Actor) (script : Calls) (old : At) (t : Turn) (new : At) → MoveBy actor script old t new → Invariant old.ring → Invariant new.ring
move_keeps P script old t new move h = publisher_step_keeps old.ring move.call _ move.step h
move_keeps (Seat s) script old t new move h = seat_step_keeps old.ring s move.call _ move.step h

-- each run keeps the invariant
pub ran_keeps : (script : Calls) (old : At) (turns : List Turn) (new : At) → Ran script old turns new → Invariant old.ring → Invariant new.ring
ran_keeps script old [] new ran h = rw ran h
ran_keeps script old (t ∷ ts) new ran h = ran_keeps script ran.0 ts new ran.2 (move_keeps t.actor script old t ran.0 ran.1 h)
