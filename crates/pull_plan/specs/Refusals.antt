-- When a password that the source refused is sent again.
use Rattle.std.specs.Prelude.{ℕ, ◌+◌, ◌-◌, ◌^◌, Option, None, Some, min}
use Rattle.pull_plan.specs.declared.password_tries.PasswordTries.{PasswordTries}

-- how long it isn't sent after a refusal, in milliseconds: 10 minutes after the first one, and 30 after each further one
abbrev pub wait_after : (due : Option ℕ) → ℕ
wait_after None = 600000
wait_after (Some due) = 1800000

-- it is refused at this moment
abbrev pub refused_at : PasswordTries → (now : ℕ) → PasswordTries
refused_at tries now = record { due = Some (min (now + wait_after tries.due) (2 ^ 64 - 1)) }

-- how long a try doesn't send it yet, from this moment on, in milliseconds: not at all if it wasn't refused, or that time has passed
abbrev pub wait_of : (due : Option ℕ) → (now : ℕ) → ℕ
wait_of None now = 0
wait_of (Some due) now = due - now

abbrev pub wait_until : PasswordTries → (now : ℕ) → ℕ
wait_until tries now = wait_of tries.due now
