-- When a listener accepts.
use Rattle.std.specs.Prelude.{ℕ, ◌-◌, ◌+◌, ◌^◌, Bool, false, Option, Some, None, min, nat_le}

-- the moment this many milliseconds after another; the last is 2^64 - 1
abbrev pub later : (now milliseconds : ℕ) → ℕ
later now milliseconds = min (now + milliseconds) (2 ^ 64 - 1)

-- when to accept if connections wait from now on; a retry that is to come stays
abbrev pub comes : (at : Option ℕ) → (now : ℕ) → Option ℕ
comes None now = Some now
comes (Some at) now = Some at

-- when to accept after an accept that fails now
abbrev pub after_failure : (now : ℕ) → Option ℕ
after_failure now = Some (later now 100)

-- whether to accept now
abbrev pub accepts : (at : Option ℕ) → (now : ℕ) → Bool
accepts None now = false
accepts (Some at) now = nat_le at now

-- the earlier of two moments that may come
abbrev pub earlier : (a b : Option ℕ) → Option ℕ
earlier None b = b
earlier (Some a) None = Some a
earlier (Some a) (Some b) = Some (min a b)

-- how long it is until a moment that may come
abbrev pub wait_of : Option ℕ → (now : ℕ) → Option ℕ
wait_of None now = None
wait_of (Some moment) now = Some (moment - now)
