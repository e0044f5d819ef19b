-- When a thread is late.
use Rattle.std.specs.Prelude.{ℕ, ◌-◌, Bool, true, false, nat_eq, nat_lt, List, map, slice_get, Option, None, Some, if◌then◌else◌}
use Rattle.std.specs.List.{position}
use Rattle.server_counts.specs.declared.thread_mark.Mark.{Mark}
use Rattle.server_counts.specs.declared.thread_mark.ThreadLook.{ThreadLook}
use Rattle.server_counts.specs.declared.thread_mark.ServerThread.{ServerThread}
use Rattle.server_counts.specs.declared.thread_mark.ServerThread.TheVariants.{Accepting, Waking, Writing, Refusing, Reporting}
use Rattle.thread_health.specs.declared.raised.RaisedSince.{RaisedSince}
use Rattle.thread_health.specs.declared.health.SeenThread.{SeenThread}

-- how many milliseconds a thread may take to look
abbrev pub most_milliseconds : ℕ
most_milliseconds = 2000

-- a mark that is raised for the first time with this number of looks, at this moment
abbrev pub raised_at : (looks now : ℕ) → RaisedSince
raised_at looks now = record { looks = looks; since = now }

-- The moment from which on a mark was raised at each observation with the same number of looks, after one more observation. There is
-- none if the mark isn't raised. A look begins it anew.
abbrev pub since_after : (old : Option RaisedSince) → Mark → (now : ℕ) → Option RaisedSince
since_after None mark now = if mark.is_raised then Some (raised_at mark.looks now) else None
since_after (Some old) mark now =
    if mark.is_raised then (if nat_eq old.looks mark.looks then Some old else Some (raised_at mark.looks now)) else None

-- whether there was something to do for the thread at an observation more than two seconds ago, and it hasn't looked since
abbrev pub is_late : Option RaisedSince → (now : ℕ) → Bool
is_late None now = false
is_late (Some raised) now = nat_lt most_milliseconds (now - raised.since)

-- whether the two are one thread
abbrev pub is_same : (one other : ServerThread) → Bool
is_same Accepting Accepting = true
is_same Waking Waking = true
is_same (Writing one) (Writing other) = nat_eq one other
is_same Refusing Refusing = true
is_same Reporting Reporting = true
is_same one other = false

-- the thread at a place, if there is one
abbrev pub seen_at : List SeenThread → (place : Option ℕ) → Option SeenThread
seen_at seen None = None
seen_at seen (Some place) = slice_get seen place

abbrev pub raised_in : Option SeenThread → Option RaisedSince
raised_in None = None
raised_in (Some seen) = seen.raised

abbrev pub thread_in : Option SeenThread → Option ServerThread
thread_in None = None
thread_in (Some seen) = Some seen.thread

-- since when the mark of a thread was raised
abbrev pub raised_of : List SeenThread → ServerThread → Option RaisedSince
raised_of seen thread = raised_in (seen_at seen (position (λ seen. is_same seen.thread thread) seen))

-- how a thread is seen after one more observation
abbrev pub after_look : (old : List SeenThread) → (now : ℕ) → ThreadLook → SeenThread
after_look old now look = record { thread = look.thread; raised = since_after (raised_of old look.thread) look.mark now }

-- how the threads are seen after one more observation
abbrev pub seen_after : (old : List SeenThread) → List ThreadLook → (now : ℕ) → List SeenThread
seen_after old looks now = map (after_look old now) looks

-- the first of them that is late
abbrev pub first_late : List SeenThread → (now : ℕ) → Option ServerThread
first_late seen now = thread_in (seen_at seen (position (λ seen. is_late seen.raised now) seen))
