-- How fast a connection is read that doesn't record. Moments and distances are in milliseconds.
use Rattle.std.specs.Prelude.{ℕ, ◌+◌, ◌-◌, ◌/◌, ◌^◌, min, nat_lt, nat_le, if◌then◌else◌}
use Rattle.pacing.specs.declared.read_rate.ReadRate.{ReadRate}

-- what was read in the window of 16 milliseconds that a read at this moment is in: a window begins with the first read after the
-- last one
abbrev pub counted : ReadRate → (now bytes : ℕ) → ReadRate
counted rate now bytes =
    if nat_lt (now - rate.began) 16
    then record { began = rate.began; bytes = min (rate.bytes + bytes) (2 ^ 64 - 1) }
    else record { began = now; bytes = bytes }

-- for how long nothing more is read: once 65,536 bytes were read in the window, until a millisecond has passed for each 4,096 of
-- them, and at most 64
abbrev pub rest_of : ReadRate → (now : ℕ) → ℕ
rest_of rate now = if nat_le 65536 rate.bytes then min (rate.bytes / 4096) 64 - (now - rate.began) else 0
