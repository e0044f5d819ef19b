-- What the commands `steps` and `pass` do.
use Rattle.std.specs.Prelude.{◌≡◌, ◌≤◌, ◌+◌, ◌⊎◌, ℕ, Bool, true, List, Option}
use Rattle.relay_command.specs.declared.settings.Passing.{Passing}
use Rattle.relay_pass.specs.declared.report.PassReport.{PassReport}
use Rattle.relay_pass.specs.declared.report.PassStop.{PassStop}
use Rattle.relay_pass.specs.declared.report.PassStop.TheVariants as stop
use Rattle.relay_pass.specs.declared.report.StreamEnd.TheVariants as stream
use Rattle.relay_pass.specs.Counts.{counted_takes}
use Rattle.relay_pass.specs.Passes.{PassesNew, cut_packets}
use Rattle.relay_talk.specs.declared.talk.TalkEnd.{TalkEnd}
use Rattle.relay_talk.specs.declared.talk.TalkEnd.TheVariants as ends
use Rattle.relay_talk.specs.Talk.{exit_line, exit_status}
use Rattle.rtsp_message.specs.Intakes.{IntakeState, fresh}
use Rattle.ring_steps.specs.declared.calls.Actor.{Actor}
use Rattle.ring_script.specs.declared.ends.StepsEnd.{StepsEnd}
use Rattle.ring_script.specs.Steps.{StepsSo, steps_status, steps_end_line}

module _ {R W : Type 0} (incoming : R → Option (List ℕ)) (read_failed : R → Bool) (written : W → Option (List ℕ)) (write_failed : W → Bool) where
  -- a ring's schedule is run, with this actor stopped behind it, or none, and this status and this line tell how it ended
  abbrev pub DoesSteps : (stopped : Option Actor) → R → W → W → ℕ → List ℕ → Type 0
  DoesSteps stopped reader old new status line =
      (last : R) × (end : StepsEnd) × StepsSo incoming read_failed written write_failed stopped reader last old new end × (status ≡ steps_status end) × (line ≡ steps_end_line end)

  -- a ring's schedule is run so, however it ended
  abbrev pub IsSteps : (stopped : Option Actor) → R → W → W → Type 0
  IsSteps stopped reader old new = (last : R) × (end : StepsEnd) × StepsSo incoming read_failed written write_failed stopped reader last old new end

-- how a talk ends for the same reason as a pass
abbrev pub talk_end_of : PassStop → TalkEnd
talk_end_of stop.WriteFailed = ends.WriteFailed
talk_end_of (stop.Stream stream.End) = ends.Done
talk_end_of (stop.Stream (stream.Fault fault)) = ends.StreamFault fault
talk_end_of (stop.Stream stream.ReadFailed) = ends.ReadFailed
talk_end_of (stop.Stream stream.OutOfMemory) = ends.OutOfMemory

module _ {R W : Type 0} (incoming : R → Option (List ℕ)) (read_failed : R → Bool) (written : W → Option (List ℕ)) (write_failed : W → Bool) where
  -- A stream was passed through a new ring, with this report. Nothing was lost. Each packet that was published was taken, also if a
  -- write failed. A write failed only if the sink has failed.
  pub record PassesThrough (passing : Passing) (reader : R) (old new : W) (report : PassReport) : Type 0 where
    pub last : IntakeState R
    pub passes : PassesNew incoming read_failed passing.keep 16384 passing.from passing.to (fresh reader) last (written old) (written new) report
    pub kept_up : report.went.lost ≡ 0
    pub in_step : report.came.published ≤ counted_takes report.went + cut_packets report.stop
    pub failed : report.stop ≡ stop.WriteFailed → write_failed new ≡ true

  -- It ended so. If memory was refused for the ring, nothing was written.
  abbrev pub PassesSo : Passing → R → W → W → TalkEnd → Type 0
  PassesSo passing reader old new end =
      ((report : PassReport) × PassesThrough passing reader old new report × (end ≡ talk_end_of report.stop)) ⊎ ((written new ≡ written old) × (end ≡ ends.OutOfMemory))

  -- a stream was passed on, and this status and this line report how that ended
  abbrev pub DoesPass : Passing → R → W → W → ℕ → List ℕ → Type 0
  DoesPass passing reader old new status line = (end : TalkEnd) × PassesSo passing reader old new end × (status ≡ exit_status end) × (line ≡ exit_line end)

  -- a stream was passed on, however that ended
  abbrev pub IsPassed : Passing → R → W → W → Type 0
  IsPassed passing reader old new = (end : TalkEnd) × PassesSo passing reader old new end
