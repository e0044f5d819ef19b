-- What a writer knows of a player, and what is next before a look at it. Moments are in milliseconds.
use Rattle.std.specs.Prelude.{◌≡◌, ℕ, ◌-◌, ◌==◌, ◌||◌, ◌&&◌, not, Bool, true, nat_lt, Option, None, Some, is_some, if◌then◌else◌}
use Rattle.pacing.specs.declared.patience.Patience.{Patience}
use Rattle.waking.specs.declared.attention.Attention.{Attention}
use Rattle.waking.specs.declared.ending.Ending.{Ending}
use Rattle.waking.specs.declared.ending.Ending.TheVariants.{WithMount, Closing, Failed}
use Rattle.waking.specs.declared.sweep.Next.{Next}
use Rattle.waking.specs.declared.sweep.Next.TheVariants.{Sleep, Later, Over}
use Rattle.waking.specs.declared.player_state.PlayerState.{PlayerState}
use Rattle.waking.specs.Attentions.{newcomer, to_look_at}
use Rattle.waking.specs.Endings.{has_failed, is_closing}

-- one that comes is looked at, and a publisher may wait for it
abbrev pub comer : (after_end : Option ℕ) → PlayerState
comer after_end = record { attention = newcomer; patience = None; is_paced = true; ended_at = None; ending = None; after_end = after_end }

-- it is looked at again after a time alone: bytes wait that its socket didn't take, or it is to be disconnected
abbrev pub waits : PlayerState → Bool
waits player = is_some player.patience || is_closing player.ending

-- what is next of a player that needn't be looked at, where no bytes wait
abbrev pub next_idle : Option Ending → Attention → (player_wakeups now : ℕ) → Option Next
next_idle None attention player_wakeups now = if player_wakeups == attention.seen then Some Sleep else None
next_idle (Some WithMount) attention player_wakeups now = Some Over
next_idle (Some (Closing moment)) attention player_wakeups now = if nat_lt now moment then Some (Later (moment - now)) else None
next_idle (Some (Failed failure)) attention player_wakeups now = Some Over

-- what is next of a player that needn't be looked at, where bytes may wait
abbrev pub next_quiet : Option Patience → Option Ending → Attention → (player_wakeups now : ℕ) → (is_read : Bool) → Option Next
next_quiet None ending attention player_wakeups now is_read = next_idle ending attention player_wakeups now
next_quiet (Some patience) ending attention player_wakeups now is_read =
    if is_read && nat_lt now patience.due then Some (Later (patience.due - now)) else None

-- what is next of a player for which nothing is to be done now
abbrev pub next_before : PlayerState → (player_wakeups now : ℕ) → (is_read : Bool) → Option Next
next_before player player_wakeups now is_read =
    if has_failed player.ending then Some Over
    else if player.attention.again then None
    else next_quiet player.patience player.ending player.attention player_wakeups now is_read

-- whatever the time, there is nothing to do for it where its mount's players were woken so often
abbrev pub SleepsAt : PlayerState → (player_wakeups : ℕ) → Type 0
SleepsAt player player_wakeups = (now : ℕ) (is_read : Bool) → next_before player player_wakeups now is_read ≡ Some Sleep

-- its line was taken by another, and it is looked at again once that gives it back; one whose frames have failed is over
abbrev pub player_skipped : PlayerState → PlayerState
player_skipped player = if has_failed player.ending then player else record player { attention = to_look_at player.attention }

-- what is next then
abbrev pub next_skipped : PlayerState → Next
next_skipped player = if has_failed player.ending then Over else Sleep

-- how its frames ended, where the last of them were written or won't be
abbrev pub written_ending : PlayerState → Option Ending
written_ending player = if is_some player.patience && not (has_failed player.ending) then None else player.ending
