-- The actor that stops behind a ring's schedule.
use Rattle.std.specs.Prelude.{◌≡◌, ◌⊎◌, ℕ, List, Option, None, Some}
use Rattle.clap.specs.Values.{kind_of}
use Rattle.clap.specs.declared.error.Error.{Error}
use Rattle.clap.specs.declared.error.kind.ErrorKind.TheVariants.{OutOfMemory, ValueValidation}
use Rattle.ring_steps.specs.declared.calls.Actor.{Actor}
use Rattle.ring_script.specs.Grammar.{IsActor}

-- the actor that the text after the option names, as in a schedule; without the option none stops
abbrev pub IsStopped : (text : Option (List ℕ)) → Option Actor → Type 0
IsStopped None stopped = stopped ≡ None
IsStopped (Some name) None = ⊥
IsStopped (Some name) (Some actor) = IsActor name actor

-- there is such a text, which names no actor, and the error tells it; or there was no memory to look
abbrev pub IsNoActor : (text : Option (List ℕ)) → Error → Type 0
IsNoActor None error = ⊥
IsNoActor (Some name) error = ((actor : Actor) → ¬ IsActor name actor) × ((kind_of error ≡ ValueValidation) ⊎ (kind_of error ≡ OutOfMemory))
