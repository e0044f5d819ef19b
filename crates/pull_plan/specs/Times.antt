-- When the frames of a try went on.
use Rattle.std.specs.Prelude.{ℕ, ◌-◌, nat_lt, Option, None, Some, if◌then◌else◌}
use Rattle.pull_plan.specs.declared.frame_times.FrameTimes.{FrameTimes}

-- the first moment, which is now if there was none
abbrev pub first_of : Option (ℕ × ℕ) → (now : ℕ) → ℕ
first_of None now = now
first_of (Some span) now = span.0

-- so many frames have gone on at this moment: if they are more than before, the last one has now
abbrev pub seen_at : FrameTimes → (sent now : ℕ) → FrameTimes
seen_at times sent now =
    if nat_lt times.sent sent then record { sent = sent; span = Some (first_of times.span now, now) } else times

abbrev pub length_of : Option (ℕ × ℕ) → ℕ
length_of None = 0
length_of (Some span) = span.1 - span.0

-- from the first one to the last one
abbrev pub lasted : FrameTimes → ℕ
lasted times = length_of times.span
