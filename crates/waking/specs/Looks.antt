-- A writer's look at a player that had its line. Moments are in milliseconds.
use Rattle.std.specs.Prelude.{ℕ, ◌-◌, ◌||◌, ◌&&◌, not, Bool, true, false, nat_lt, nat_le, max, Option, None, Some, is_some, unwrap_or, if◌then◌else◌}
use Rattle.pacing.specs.declared.patience.Patience.{Patience}
use Rattle.pacing.specs.Patiences.{is_recent, later, next_distance}
use Rattle.waking.specs.declared.attention.Attention.{Attention}
use Rattle.waking.specs.declared.ending.Answer.{Answer}
use Rattle.waking.specs.declared.ending.Answer.TheVariants as answer
use Rattle.waking.specs.declared.ending.Ending.{Ending}
use Rattle.waking.specs.declared.ending.Ending.TheVariants.{WithMount, Closing, Failed}
use Rattle.waking.specs.declared.ending.Failure.TheVariants.{WriteFailed}
use Rattle.waking.specs.declared.look.Course.{Course}
use Rattle.waking.specs.declared.look.Course.TheVariants.{Take, ComeBack, Pass}
use Rattle.waking.specs.declared.look.Flushed.{Flushed}
use Rattle.waking.specs.declared.look.Flushed.TheVariants as flushed
use Rattle.waking.specs.declared.look.Found.{Found}
use Rattle.waking.specs.declared.player_state.PlayerState.{PlayerState}
use Rattle.waking.specs.declared.sweep.Next.{Next}
use Rattle.waking.specs.declared.sweep.Next.TheVariants.{Sleep, Again, Later, Over}
use Rattle.waking.specs.Attentions.{emptied, held, to_look_at}
use Rattle.waking.specs.Endings.{ending_after, first_seen, has_failed, is_with_mount}

-- the writer is to take: no bytes wait any more, and the frames go on
abbrev pub takes : Flushed → Option Ending → Bool
takes flushed.Failed ending = false
takes flushed.All ending = not (is_some ending)
takes flushed.Rest ending = false

-- bytes wait of frames that go on
abbrev pub rests : Flushed → Option Ending → Bool
rests flushed.Failed ending = false
rests flushed.All ending = false
rests flushed.Rest ending = not (is_some ending)

-- what a writer does once it has tried the bytes that waited
abbrev pub course_of : Flushed → PlayerState → (is_late : Bool) → Course
course_of flushed.Failed player is_late = Pass (answer.Failed WriteFailed)
course_of flushed.All player is_late = if is_some player.ending then Pass answer.More else if player.is_paced then Take else ComeBack
course_of flushed.Rest player is_late = if not (is_some player.ending) && is_late then Pass answer.Ended else Pass answer.More

-- what a writer knows of a player once it has tried the bytes that waited: it has taken note of the player, which comes back into
-- its mount's pace where it is to take, and whose mount's end counts where bytes wait
abbrev pub player_flushed : Flushed → (has_ended : Bool) → (now : ℕ) → PlayerState → PlayerState
player_flushed found has_ended now player = record player {
  attention = held player.attention;
  patience = if takes found player.ending then None else player.patience;
  is_paced = takes found player.ending || player.is_paced;
  ended_at = if rests found player.ending then first_seen player.ended_at has_ended now else player.ended_at;
}

-- bytes wait after this look, and may be written yet
abbrev pub are_left : PlayerState → Found → Bool
are_left player found = found.is_left && not (has_failed (ending_after found.answer player.ending))

-- a peer has taken no byte for as long as a stall may last
abbrev pub is_spent : Option Patience → (now : ℕ) → (stall : Option ℕ) → Bool
is_spent None now stall = false
is_spent (Some patience) now None = false
is_spent (Some patience) now (Some most) = nat_le most (now - patience.since)

-- the player is given up: bytes wait, none moved, and the clock could be read and says that its peer took none for too long
abbrev pub is_given_up : PlayerState → Found → (now : ℕ) → (is_read : Bool) → (stall : Option ℕ) → Bool
is_given_up player found now is_read stall = are_left player found && (not found.moved && (is_read && is_spent player.patience now stall))

-- a peer was tried in vain for which no publisher waits longer: it wasn't awaited, or took its last byte 20 milliseconds ago
abbrev pub is_tried_enough : Option Patience → (is_awaited : Bool) → (now : ℕ) → Bool
is_tried_enough None is_awaited now = false
is_tried_enough (Some patience) is_awaited now = not (is_awaited && is_recent patience now)

-- the look was in vain, and no publisher waits for the player any more
abbrev pub is_in_vain : PlayerState → Found → (now : ℕ) → Bool
is_in_vain player found now = found.is_left && (not found.moved && is_tried_enough player.patience found.is_awaited now)

-- the peer is sent the end of its stream: all was sent, and it is to be disconnected after that
abbrev pub closes : PlayerState → Found → Bool
closes player found = not found.is_left && (is_with_mount (ending_after found.answer player.ending) && is_some player.after_end)

-- the tap is left: the frames have just ended with their mount
abbrev pub leaves_tap : PlayerState → Found → Bool
leaves_tap player found = not (is_some player.ending) && is_with_mount (ending_after found.answer player.ending)

-- how the frames have ended after a look: who is given up counts as failed, and who is sent the end of its stream is disconnected
-- once its time is over
abbrev pub ending_looked : PlayerState → Found → (now : ℕ) → (is_given_up : Bool) → Option Ending
ending_looked player found now is_given_up =
    if is_given_up then Some (Failed WriteFailed)
    else if closes player found then Some (Closing (later now (unwrap_or player.after_end 0)))
    else ending_after found.answer player.ending

-- the patience with a peer from when it took a byte, or the first had to wait
abbrev pub begun : (now : ℕ) → Patience
begun now = record { since = now; due = later now 1; distance = 1 }

-- the patience with a peer for which bytes wait after a look
abbrev pub tried : Option Patience → Found → (now : ℕ) → Patience
tried None found now = begun now
tried (Some patience) found now =
    if found.moved then begun now
    else record { since = patience.since; due = later now (next_distance patience now found.is_awaited); distance = next_distance patience now found.is_awaited }

-- the same after a look, where bytes wait of frames that haven't failed
abbrev pub patience_looked : PlayerState → Found → (now : ℕ) → (is_given_up : Bool) → Option Patience
patience_looked player found now is_given_up = if are_left player found && not is_given_up then Some (tried player.patience found now) else None

-- who may have more to take, and waits for nothing, is to be looked at again; who has taken all, once more was woken for
abbrev pub attention_looked : Answer → (waits_for_nothing : Bool) → (player_wakeups : ℕ) → Attention → Attention
attention_looked answer.More waits_for_nothing player_wakeups attention = if waits_for_nothing then to_look_at attention else held attention
attention_looked answer.Empty waits_for_nothing player_wakeups attention = emptied player_wakeups
attention_looked answer.Ended waits_for_nothing player_wakeups attention = held attention
attention_looked (answer.Failed failure) waits_for_nothing player_wakeups attention = held attention

-- what is next of a player whose frames have ended so, and for which no bytes wait
abbrev pub next_ended : Option Ending → (now : ℕ) → Next
next_ended None now = Sleep
next_ended (Some WithMount) now = Over
next_ended (Some (Closing moment)) now = if nat_lt now moment then Later (moment - now) else Over
next_ended (Some (Failed failure)) now = Over

-- what is next of a player whose ring needn't be looked at again at once
abbrev pub next_tried : Option Patience → Option Ending → (now : ℕ) → Next
next_tried None ending now = next_ended ending now
next_tried (Some patience) ending now = Later (max (patience.due - now) 1)

-- what is next after a look that left this
abbrev pub next_after : PlayerState → (now : ℕ) → Next
next_after player now = if player.attention.again then Again else next_tried player.patience player.ending now

-- there is nothing more to do
abbrev pub is_over : Next → Bool
is_over Sleep = false
is_over Again = false
is_over (Later time) = false
is_over Over = true
