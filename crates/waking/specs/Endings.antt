-- How a player's frames end. Moments are in milliseconds.
use Rattle.std.specs.Prelude.{ℕ, ◌-◌, Bool, true, false, nat_le, Option, None, Some, unwrap_or, if◌then◌else◌}
use Rattle.waking.specs.declared.ending.Answer.{Answer}
use Rattle.waking.specs.declared.ending.Answer.TheVariants as answer
use Rattle.waking.specs.declared.ending.Ending.{Ending}
use Rattle.waking.specs.declared.ending.Ending.TheVariants.{WithMount, Closing, Failed}

-- they have ended otherwise than with their mount
abbrev pub has_failed : Option Ending → Bool
has_failed None = false
has_failed (Some WithMount) = false
has_failed (Some (Closing moment)) = false
has_failed (Some (Failed failure)) = true

-- they have ended with their mount, and the peer wasn't told
abbrev pub is_with_mount : Option Ending → Bool
is_with_mount None = false
is_with_mount (Some WithMount) = true
is_with_mount (Some (Closing moment)) = false
is_with_mount (Some (Failed failure)) = false

-- the peer was sent the end of its stream, and is to be disconnected
abbrev pub is_closing : Option Ending → Bool
is_closing None = false
is_closing (Some WithMount) = false
is_closing (Some (Closing moment)) = true
is_closing (Some (Failed failure)) = false

-- how frames that had ended so end after this answer: a failure is kept, and comes before an end with the mount
abbrev pub ending_after : Answer → Option Ending → Option Ending
ending_after answer.More ending = ending
ending_after answer.Empty ending = ending
ending_after answer.Ended ending = Some (unwrap_or ending WithMount)
ending_after (answer.Failed failure) ending = if has_failed ending then ending else Some (Failed failure)

-- when its mount was first seen to have ended: now, if it has, and wasn't seen so before
abbrev pub first_seen : (ended_at : Option ℕ) → (has_ended : Bool) → (now : ℕ) → Option ℕ
first_seen None has_ended now = if has_ended then Some now else None
first_seen (Some moment) has_ended now = Some moment

-- a mount that was first seen to have ended then was so at least this time ago
abbrev pub is_late : (ended_at : Option ℕ) → (now most : ℕ) → Bool
is_late None now most = false
is_late (Some moment) now most = nat_le most (now - moment)
