-- What the turns of actors do to a run that is being made.
use Rattle.std.specs.Prelude.{◌≡◌, ◌≢◌, ℕ, ◌+◌, ◌-◌, Bool, List, [], ◌∷◌, ◌++◌, length, map, replicate, is_some, slice_index_or}
use Rattle.ring_steps.specs.declared.calls.Actor.{Actor}
use Rattle.ring_steps.specs.declared.calls.Actor.TheVariants.{P, Seat}
use Rattle.ring_steps.specs.declared.config.Config.{Config}
use Rattle.ring_steps.specs.declared.made.Made.{Made}
use Rattle.ring_steps.specs.Acting.{answered_of, calls_of_actor}
use Rattle.ring_steps.specs.Agreeing.{Agrees}
use Rattle.ring_steps.specs.Bounds.{CountsTo, IsOfSize}
use Rattle.ring_steps.specs.Faults.{HasCall, actors}
use Rattle.ring_steps.specs.Runs.{At, Calls, Move, Ran, Turn, start}
use Rattle.ring_steps.specs.Slots.{Invariant}
use Rattle.ring_steps.specs.Traces.{made_of}

-- a ring in use, with how many calls of each actor were answered, and the steps that were made so far
pub record SoFar : Type 0 where
  pub at : At
  pub steps : List Made

-- nothing is made yet, over a ring that nobody used
abbrev pub nothing_made : Config → SoFar
nothing_made config = record { at = start config.keep config.seats; steps = [] }

-- the ring is one that each next step may be made from
pub record IsSound (calls : Calls) (so : SoFar) : Type 0 where
  pub invariant : Invariant so.at.ring
  pub agrees : Agrees calls so.at
  pub size : IsOfSize so.at.ring
  pub counts : CountsTo (length so.steps) so.at.ring

-- turns of these actors were made, in this order
pub record Goes (calls : Calls) (whose : List Actor) (old new : SoFar) : Type 0 where
  pub turns : List Turn
  pub ran : Ran calls old.at turns new.at
  pub by : actors turns ≡ whose
  pub made : new.steps ≡ old.steps ++ map made_of turns

-- one turn of this actor was made, which ended its call or didn't
pub record TakesTurn (calls : Calls) (actor : Actor) (ended : Bool) (old new : SoFar) : Type 0 where
  pub turn : Turn
  pub by : turn.actor ≡ actor
  pub move : Move calls old.at turn new.at
  pub ends : is_some turn.answer ≡ ended
  pub made : new.steps ≡ old.steps ++ made_of turn ∷ []

-- nobody but this actor made turns
pub record GoesAlone (calls : Calls) (actor : Actor) (old new : SoFar) : Type 0 where
  pub count : ℕ
  pub goes : Goes calls (replicate count actor) old new

-- how many of an actor's calls aren't answered yet
abbrev pub calls_left : Calls → Actor → At → ℕ
calls_left calls actor at = length (calls_of_actor calls actor) - answered_of at actor

-- so many turns of this seat, so many of the next one, and so on
abbrev pub seats_in_turn : (seat : ℕ) → (turns : List ℕ) → List Actor
seats_in_turn i [] = []
seats_in_turn i (n ∷ ns) = replicate n (Seat i) ++ seats_in_turn (i + 1) ns

-- so many turns of the publisher, and then so many of each seat
abbrev pub in_turn : (publisher : ℕ) → (seats : List ℕ) → List Actor
in_turn n ns = replicate n P ++ seats_in_turn 0 ns

-- how many of these turns are an actor's
abbrev pub turns_by : (publisher : ℕ) → (seats : List ℕ) → Actor → ℕ
turns_by n ns P = n
turns_by n ns (Seat s) = slice_index_or ns s 0

-- the publisher made turns, and then each seat in its order, but not the stopped actor; and nobody else has a call left
pub record FinishesOthers (calls : Calls) (stopped : Actor) (old new : SoFar) : Type 0 where
  pub publisher : ℕ
  pub seats : List ℕ
  pub goes : Goes calls (in_turn publisher seats) old new
  pub stays : turns_by publisher seats stopped ≡ 0
  pub answered : (actor : Actor) → actor ≢ stopped → ¬ HasCall calls new.at actor
