-- What the command `steps` writes for an input, and how it ends. With an actor that is stopped the run goes on behind its
-- schedule without this one, until no other actor has a call left; with none it ends with its schedule.
use Rattle.std.specs.Prelude.{◌≡◌, ◌<◌, ℕ, Bool, true, List, [], ◌++◌, Option, None, Some, length, take, codes, decimal}
use Rattle.std.specs.Io.KnownBytes.{Consumes, Appends, IsAtEnd}
use Rattle.ring_steps.specs.declared.calls.Actor.{Actor}
use Rattle.ring_steps.specs.declared.fault.StepFault.{StepFault}
use Rattle.ring_steps.specs.declared.trace.Trace.{Trace}
use Rattle.ring_steps.specs.Faults.{IsRefusal}
use Rattle.ring_steps.specs.RunningOut.{RunsOut, IsOutRefusal}
use Rattle.ring_steps.specs.Scripts.{IsGoodConfig, IsGoodScript}
use Rattle.ring_steps.specs.Texts.{fault_text}
use Rattle.ring_steps.specs.Traces.{IsTrace, IsOneOf}
use Rattle.ring_script.specs.declared.ends.StepsEnd.{StepsEnd}
use Rattle.ring_script.specs.declared.ends.StepsEnd.TheVariants as ends
use Rattle.ring_script.specs.declared.plan.Plan.{Plan}
use Rattle.ring_script.specs.declared.read_all.ReadFault.{ReadFault}
use Rattle.ring_script.specs.declared.read_all.ReadFault.TheVariants as reads
use Rattle.ring_script.specs.Plans.{Reads, IsBadLine}
use Rattle.ring_script.specs.Scripts.{script_of}
use Rattle.ring_script.specs.TraceText.{trace_text}

-- a trace of the plan's schedule; with a stopped actor, of the turns after it too, in which the others finish
abbrev pub IsTraceWith : (stopped : Option Actor) → Plan → Trace → Type 0
IsTraceWith None plan trace = IsTrace plan.config (script_of plan) plan.schedule trace
IsTraceWith (Some actor) plan trace = RunsOut plan.config (script_of plan) plan.schedule actor trace

-- there is such an actor to stop
abbrev pub CanStop : (stopped : Option Actor) → Plan → Type 0
CanStop None plan = Unit {0}
CanStop (Some actor) plan = IsOneOf plan.config.seats actor

-- the plan isn't refused, and this is the trace of its run
pub record IsTraceOf (stopped : Option Actor) (plan : Plan) (trace : Trace) : Type 0 where
  pub config : IsGoodConfig plan.config (script_of plan)
  pub script : IsGoodScript (script_of plan)
  pub can_stop : CanStop stopped plan
  pub is_trace : IsTraceWith stopped plan trace

-- why a run of the plan is refused; with a stopped actor, where there is none to stop too
abbrev pub IsRefusalOf : (stopped : Option Actor) → Plan → StepFault → Type 0
IsRefusalOf None plan fault = IsRefusal plan.config (script_of plan) plan.schedule fault
IsRefusalOf (Some actor) plan fault = IsOutRefusal plan.config (script_of plan) plan.schedule actor fault

-- the input is a plan, and this is the trace of its run
pub record IsTraced (stopped : Option Actor) (input : List ℕ) (trace : Trace) : Type 0 where
  pub plan : Plan
  pub reads : Reads input plan
  pub runs : IsTraceOf stopped plan trace

-- The input is a plan that is refused for this reason.
pub record IsRefusedPlan (stopped : Option Actor) (input : List ℕ) (fault : StepFault) : Type 0 where
  pub plan : Plan
  pub reads : Reads input plan
  pub refused : IsRefusalOf stopped plan fault

-- These bytes are all that the source gave, up to its end.
pub record IsWholeInput {R : Type 0} (incoming : R → Option (List ℕ)) (reader last : R) (input : List ℕ) : Type 0 where
  pub given : Consumes (incoming reader) (incoming last) input
  pub ended : IsAtEnd (incoming last)

-- These bytes were read before the source failed.
pub record IsCutInput {R : Type 0} (incoming : R → Option (List ℕ)) (failed : R → Bool) (reader last : R) (input : List ℕ) : Type 0 where
  pub given : Consumes (incoming reader) (incoming last) input
  pub stopped : failed last ≡ true

-- the text of the trace of all that the source gives, from where it stood to where it was left
pub record IsTextOf {R : Type 0} (incoming : R → Option (List ℕ)) (stopped : Option Actor) (reader last : R) (text : List ℕ) : Type 0 where
  pub input : List ℕ
  pub trace : Trace
  pub whole : IsWholeInput incoming reader last input
  pub traced : IsTraced stopped input trace
  pub is_text : text ≡ trace_text trace

-- how the command ends where nothing is written
module _ {R : Type 0} (incoming : R → Option (List ℕ)) (failed : R → Bool) where
  -- why a source wasn't read to its end
  abbrev pub IsReadFault : R → R → ReadFault → Type 0
  IsReadFault reader last reads.Failed = (input : List ℕ) × IsCutInput incoming failed reader last input
  IsReadFault reader last reads.OutOfMemory = Unit {0}

  abbrev pub EndsEarly : (stopped : Option Actor) → (reader last : R) → StepsEnd → Type 0
  EndsEarly stopped reader last ends.Done = ⊥
  EndsEarly stopped reader last (ends.BadLine number) = (input : List ℕ) × IsWholeInput incoming reader last input × IsBadLine input number
  EndsEarly stopped reader last (ends.Refused fault) = (input : List ℕ) × IsWholeInput incoming reader last input × IsRefusedPlan stopped input fault
  EndsEarly stopped reader last ends.ReadFailed = (input : List ℕ) × IsCutInput incoming failed reader last input
  EndsEarly stopped reader last ends.WriteFailed = ⊥
  EndsEarly stopped reader last ends.OutOfMemory = Unit {0}

module _ {R W : Type 0} (incoming : R → Option (List ℕ)) (read_failed : R → Bool) (written : W → Option (List ℕ)) (write_failed : W → Bool) where
  -- How the command ends, and what was written: the text of the one trace, after a failed write a beginning of that, and
  -- with another fault nothing. The reader is left as the last one.
  abbrev pub StepsSo : (stopped : Option Actor) → (reader last : R) → W → W → StepsEnd → Type 0
  StepsSo stopped reader last old new ends.Done = (text : List ℕ) × IsTextOf incoming stopped reader last text × Appends (written old) (written new) text
  StepsSo stopped reader last old new ends.WriteFailed =
      (text : List ℕ) × IsTextOf incoming stopped reader last text × (write_failed new ≡ true) × (n : ℕ) × (n < length text) × Appends (written old) (written new) (take n text)
  StepsSo stopped reader last old new end = (new ≡ old) × EndsEarly incoming read_failed stopped reader last end

-- the exit status
abbrev pub steps_status : StepsEnd → ℕ
steps_status ends.Done = 0
steps_status (ends.BadLine number) = 1
steps_status (ends.Refused fault) = 1
steps_status ends.ReadFailed = 1
steps_status ends.WriteFailed = 1
steps_status ends.OutOfMemory = 1

-- the line on standard error
abbrev pub steps_end_line : StepsEnd → List ℕ
steps_end_line ends.Done = []
steps_end_line (ends.BadLine number) = codes "relay: bad line " ++ decimal number
steps_end_line (ends.Refused fault) = codes "relay: " ++ fault_text fault
steps_end_line ends.ReadFailed = codes "relay: read failed"
steps_end_line ends.WriteFailed = codes "relay: write failed"
steps_end_line ends.OutOfMemory = codes "relay: out of memory"
