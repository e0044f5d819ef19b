-- The times of a try, in milliseconds of one clock.
use Rattle.std.specs.Prelude.{◌+◌, ◌-◌, ℕ, Bool, true, false, Option, Some, None, if◌then◌else◌, nat_le}

-- Something that happened at a moment is at least this long ago. Nothing happened: it isn't.
abbrev pub is_ago : Option ℕ → (least now : ℕ) → Bool
is_ago None least now = false
is_ago (Some at) least now = nat_le least (now - at)

-- the moment of what happened, if anything did, becomes this one
abbrev pub renewed : Option ℕ → (now : ℕ) → Option ℕ
renewed None now = None
renewed (Some at) now = Some now

-- A moment that comes, at most the greatest one.
abbrev pub moment_after : (now wait : ℕ) → ℕ
moment_after now wait = if nat_le 18446744073709551616 (now + wait) then 18446744073709551615 else now + wait

-- the moment has come
abbrev pub has_come : Option ℕ → (now : ℕ) → Bool
has_come None now = false
has_come (Some at) now = nat_le at now

-- the first of two that happened stays
abbrev pub first_of : Option ℕ → (next : ℕ) → Option ℕ
first_of None next = Some next
first_of (Some at) next = Some at

-- Since when the target has taken no byte while some wait: since now if it takes some, or if they begin to wait.
abbrev pub waiting_since : (some has_taken : Bool) → Option ℕ → (now : ℕ) → Option ℕ
waiting_since false has_taken since now = None
waiting_since true true since now = Some now
waiting_since true false since now = first_of since now
