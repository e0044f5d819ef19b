-- The delays between tries.
use Rattle.std.specs.Prelude.{ℕ, nat_le, if◌then◌else◌}
use Rattle.pull_plan.specs.declared.retry.Retry.{Retry}

-- the delay after a try on which frames went on for so many milliseconds
abbrev pub delay_after : Retry → (frames_for : ℕ) → ℕ
delay_after retry frames_for = if nat_le 10000 frames_for then retry.first else retry.next
