-- Runs that go on after their schedule without one actor, which has stopped, until nobody else has a call left.
use Rattle.std.specs.Prelude.{◌≡◌, ◌≢◌, ◌⊎◌, ◌++◌, ℕ, List, length}
use Rattle.ring_steps.specs.declared.calls.Actor.{Actor}
use Rattle.ring_steps.specs.declared.config.Config.{Config}
use Rattle.ring_steps.specs.declared.fault.StepFault.{StepFault}
use Rattle.ring_steps.specs.declared.fault.StepFault.TheVariants.{BadSchedule}
use Rattle.ring_steps.specs.declared.trace.Trace.{Trace}
use Rattle.ring_steps.specs.Faults.{HasCall, IsRefusal, actors}
use Rattle.ring_steps.specs.Making.{in_turn, turns_by}
use Rattle.ring_steps.specs.Runs.{At, Calls, Ran, Turn, start}
use Rattle.ring_steps.specs.Scripts.{IsGoodConfig, IsGoodScript}
use Rattle.ring_steps.specs.Traces.{IsOneOf, IsTrace}

-- a trace of the schedule and of more turns after it: the publisher's, and then each seat's in their order. The stopped actor
-- makes none of these, and at their end every call of each other actor is answered
pub record RunsOut (config : Config) (calls : Calls) (schedule : List Actor) (stopped : Actor) (trace : Trace) : Type 0 where
  pub publisher : ℕ
  pub seats : List ℕ
  pub told : IsTrace config calls (schedule ++ in_turn publisher seats) trace
  pub stays : turns_by publisher seats stopped ≡ 0
  pub answered : (actor : Actor) → actor ≢ stopped → ¬ HasCall calls told.end actor

-- the schedule can be run, and the actor that is to stop after it doesn't exist
pub record IsBadStop (config : Config) (calls : Calls) (schedule : List Actor) (stopped : Actor) : Type 0 where
  pub good_config : IsGoodConfig config calls
  pub good_script : IsGoodScript calls
  pub turns : List Turn
  pub end : At
  pub ran : Ran calls (start config.keep config.seats) turns end
  pub by : actors turns ≡ schedule
  pub none : ¬ IsOneOf config.seats stopped

-- what a refusal tells: that of a run of the schedule, or at the schedule's length that there is no such actor to stop
abbrev pub IsOutRefusal : Config → Calls → (schedule : List Actor) → (stopped : Actor) → StepFault → Type 0
IsOutRefusal config calls schedule stopped fault =
    IsRefusal config calls schedule fault ⊎ ((fault ≡ BadSchedule (length schedule)) × IsBadStop config calls schedule stopped)

-- from here the publisher makes turns, and then each seat in its order, but not the stopped actor; and then nobody else has a
-- call left
pub record GoesOnWithout (calls : Calls) (stopped : Actor) (at : At) : Type 0 where
  pub publisher : ℕ
  pub seats : List ℕ
  pub turns : List Turn
  pub end : At
  pub ran : Ran calls at turns end
  pub by : actors turns ≡ in_turn publisher seats
  pub stays : turns_by publisher seats stopped ≡ 0
  pub answered : (actor : Actor) → actor ≢ stopped → ¬ HasCall calls end actor
