-- A writer's decisions as steps of the machine.
use Rattle.std.specs.Prelude.{◌≡◌, ◌≢◌, ℕ}
use Rattle.waking.specs.declared.ending.Answer.{Answer}
use Rattle.waking.specs.declared.ending.Answer.TheVariants as answer
use Rattle.waking.specs.declared.player_state.PlayerState.{PlayerState}
use Rattle.waking.specs.declared.sweep.Next.{Next}
use Rattle.waking.specs.declared.sweep.Next.TheVariants.{Sleep, Again, Later, Over}
use Rattle.waking.specs.Machine.{IsAt, LookStep, MayLook, Mount, Player, Stage, Writer, finds_no_time, finds_nothing, finishes, keeps_last_rest, keeps_rest, player_after_look, skips, takes_all, uses_up, writer_after_look}
use Rattle.waking.specs.PlayerStates.{waits}
use Rattle.waking.specs.Sweeps.{added}

-- a player of the machine of which its writer knows this, after it read how often the mount's players were woken
abbrev pub shown : PlayerState → (player_wakeups : ℕ) → Player → Player
shown state player_wakeups player = record player { attention = state.attention; waits = waits state; known = player_wakeups }

-- The step leaves for the player, unless it is over, and for the sweep what its writer decided.
pub record IsStep (step : LookStep) (player_wakeups : ℕ) (old new : PlayerState) (next : Next) : Type 0 where
  pub attention : next ≢ Over → (mount : Mount) (player : Player) → (player_after_look step mount (shown old player_wakeups player)).attention ≡ new.attention
  pub waits : next ≢ Over → (mount : Mount) (player : Player) → (player_after_look step mount (shown old player_wakeups player)).waits ≡ waits new
  pub sweep : (number : ℕ) (writer : Writer) → (writer_after_look step number writer).sweep ≡ added next writer.sweep

-- the machine may make the step wherever its writer is at this stage of its look
abbrev pub MayMake : Stage → LookStep → (player_wakeups : ℕ) → PlayerState → Type 0
MayMake stage step player_wakeups state = (number : ℕ) (player : Player) (writer : Writer)
    → IsAt stage number (shown state player_wakeups player) writer → MayLook step number (shown state player_wakeups player) writer

-- the step by which a look ends for which there was nothing to do
abbrev pub step_before : Next → LookStep
step_before Sleep = finds_nothing
step_before Again = uses_up
step_before (Later time) = finds_no_time time
step_before Over = finishes

-- the step by which a look ends that didn't get the line
abbrev pub step_skipped : Next → LookStep
step_skipped Sleep = skips
step_skipped Again = uses_up
step_skipped (Later time) = finds_no_time time
step_skipped Over = finishes

-- the step by which a look ends that left bytes, or a connection that is to be disconnected
abbrev pub resting_step : Answer → (time : ℕ) → LookStep
resting_step answer.More time = keeps_rest time
resting_step answer.Empty time = keeps_last_rest time
resting_step answer.Ended time = keeps_rest time
resting_step (answer.Failed failure) time = keeps_rest time

-- the step by which a look ends that had the line
abbrev pub step_after : Answer → Next → LookStep
step_after given Sleep = takes_all
step_after given Again = uses_up
step_after given (Later time) = resting_step given time
step_after given Over = finishes
