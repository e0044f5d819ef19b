-- When a mount is reported as silent.
use Rattle.std.specs.Prelude.{ℕ, ◌/◌, Option, None, Some, nat_lt, if◌then◌else◌}

-- the whole seconds of a silence, if they are more than two
abbrev pub silent_for : (milliseconds : ℕ) → Option ℕ
silent_for milliseconds = if nat_lt 2 (milliseconds / 1000) then Some (milliseconds / 1000) else None
