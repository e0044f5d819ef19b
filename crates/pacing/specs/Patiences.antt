-- When a peer that takes nothing is tried again, in milliseconds.
use Rattle.std.specs.Prelude.{ℕ, ◌+◌, ◌-◌, ◌*◌, ◌^◌, min, Bool, ◌&&◌, nat_lt, if◌then◌else◌}
use Rattle.pacing.specs.declared.patience.Patience.{Patience}

-- a moment some time later, of those that a clock can have
abbrev pub later : (moment : ℕ) → (distance : ℕ) → ℕ
later moment distance = min (moment + distance) (2 ^ 64 - 1)

-- a peer took a byte, or the first had to wait, less than 20 milliseconds ago
abbrev pub is_recent : Patience → (now : ℕ) → Bool
is_recent patience now = nat_lt (now - patience.since) 20

-- After a try in vain the distance of the next one is twice that of the last one. It is no more than a tenth of a second, and if a
-- publisher may wait for the peer no more than two milliseconds for the first 20.
abbrev pub next_distance : Patience → (now : ℕ) → (is_awaited : Bool) → ℕ
next_distance patience now is_awaited = min (patience.distance * 2) (if is_awaited && is_recent patience now then 2 else 100)
