-- The words that an actor and a refusal print.
use Rattle.std.specs.Prelude.{ℕ, List, ◌++◌, codes, decimal}
use Rattle.ring_steps.specs.declared.calls.Actor.{Actor}
use Rattle.ring_steps.specs.declared.calls.Actor.TheVariants.{P, Seat}
use Rattle.ring_steps.specs.declared.fault.StepFault.{StepFault}
use Rattle.ring_steps.specs.declared.fault.StepFault.TheVariants.{BadConfig, BadScript, BadSchedule, OutOfMemory}

abbrev pub actor_text : Actor → List ℕ
actor_text P = codes "p"
actor_text (Seat seat) = decimal seat

abbrev pub fault_text : StepFault → List ℕ
fault_text BadConfig = codes "bad config"
fault_text (BadScript actor call) = codes "bad script " ++ actor_text actor ++ codes " call " ++ decimal call
fault_text (BadSchedule place) = codes "bad schedule at " ++ decimal place
fault_text OutOfMemory = codes "out of memory"
