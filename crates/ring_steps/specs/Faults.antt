-- What each refusal of a run tells, and the number by which it is reported.
use Rattle.std.specs.Prelude.{◌≡◌, ◌<◌, ℕ, Some, List, map, take, slice_get, length}
use Rattle.ring_steps.specs.declared.calls.Actor.{Actor}
use Rattle.ring_steps.specs.declared.calls.Actor.TheVariants.{P, Seat}
use Rattle.ring_steps.specs.declared.calls.SeatCall.{SeatCall}
use Rattle.ring_steps.specs.declared.config.Config.{Config}
use Rattle.ring_steps.specs.declared.fault.StepFault.{StepFault}
use Rattle.ring_steps.specs.declared.fault.StepFault.TheVariants.{BadConfig, BadScript, BadSchedule, OutOfMemory}
use Rattle.ring_steps.specs.Runs.{At, Calls, Ran, Turn, start}
use Rattle.ring_steps.specs.Scripts.{IsFirstBad, IsGoodConfig, IsGoodScript}

-- the number by which a fault is reported
abbrev pub fault_number : StepFault → ℕ
fault_number BadConfig = 1
fault_number (BadScript actor call) = 2
fault_number (BadSchedule place) = 3
fault_number OutOfMemory = 4

-- the seat is there, and has a call that isn't answered
pub record SeatHasCall (calls : Calls) (at : At) (seat : ℕ) : Type 0 where
  pub own : List SeatCall
  pub script_has : slice_get calls.seats seat ≡ Some own
  pub count : ℕ
  pub counted : slice_get at.seats seat ≡ Some count
  pub left : count < length own

-- the actor is there, and has a call that isn't answered
abbrev pub HasCall : Calls → At → Actor → Type 0
HasCall calls at P = at.publisher < length calls.publisher
HasCall calls at (Seat s) = SeatHasCall calls at s

-- the actors of these turns, in order
abbrev pub actors : List Turn → List Actor
actors turns = map (λ (t : Turn). t.actor) turns

-- the steps before this place lead to a state in which the actor at this place has no call
pub record IsBadPlace (config : Config) (calls : Calls) (schedule : List Actor) (place : ℕ) : Type 0 where
  pub turns : List Turn
  pub before : actors turns ≡ take place schedule
  pub mid : At
  pub ran : Ran calls (start config.keep config.seats) turns mid
  pub actor : Actor
  pub there : slice_get schedule place ≡ Some actor
  pub none : ¬ HasCall calls mid actor

-- what a refusal tells: the first of these that is so
abbrev pub IsRefusal : Config → Calls → (schedule : List Actor) → StepFault → Type 0
IsRefusal config calls schedule BadConfig = ¬ IsGoodConfig config calls
IsRefusal config calls schedule (BadScript actor call) = IsGoodConfig config calls × IsFirstBad calls actor call
IsRefusal config calls schedule (BadSchedule place) = IsGoodConfig config calls × IsGoodScript calls × IsBadPlace config calls schedule place
IsRefusal config calls schedule OutOfMemory = IsGoodConfig config calls × IsGoodScript calls
