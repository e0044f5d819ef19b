-- When a session is kept alive (RFC 2326, 12.37).
use Rattle.std.specs.Prelude.{ℕ, ◌+◌, ◌-◌, ◌*◌, ◌^◌, min, max, nat_eq, nat_le, Bool, false, if◌then◌else◌, Option, Some, None}
use Rattle.rtsp_client.specs.declared.keepalive.Keepalive.{Keepalive}
use Rattle.rtsp_client.specs.declared.keepalive.KeepaliveMethod.{KeepaliveMethod}
use Rattle.rtsp_client.specs.declared.keepalive.KeepaliveMethod.TheVariants.{GetParameter, Options}

-- after how many seconds without a request the server ends the session: 60 if it doesn't say
abbrev pub seconds_of : Option ℕ → ℕ
seconds_of None = 60
seconds_of (Some seconds) = if nat_eq seconds 0 then 60 else seconds

-- milliseconds from one request to the next: half of that, but at least a second and at most thirty
abbrev pub interval_of : Option ℕ → ℕ
interval_of timeout = max 1000 (min 30000 (seconds_of timeout * 500))

-- when the next request is due
abbrev pub due_after : (sent interval : ℕ) → ℕ
due_after sent interval = min (sent + interval) (2 ^ 64 - 1)

abbrev pub kept_by : (has_get_parameter : Bool) → KeepaliveMethod
kept_by has = if has then GetParameter else Options

-- a source's session, whose last request was sent at this moment
abbrev pub of_source : (timeout : Option ℕ) → (has_get_parameter : Bool) → (sent : ℕ) → Keepalive
of_source timeout has sent = record { interval = interval_of timeout; method = kept_by has; sent = sent }

-- a target's session, to which something is sent at least each 25 seconds
abbrev pub of_target : (timeout : Option ℕ) → (sent : ℕ) → Keepalive
of_target timeout sent = record { interval = min (interval_of timeout) 25000; method = Options; sent = sent }

-- a request of the session is sent
abbrev pub sent_at : (now : ℕ) → Keepalive → Keepalive
sent_at now keepalive = record keepalive { sent = now }

-- from now on by OPTIONS
abbrev pub by_options : Keepalive → Keepalive
by_options keepalive = record keepalive { method = Options }

-- there is a session, and its next request is due
abbrev pub is_due : Option Keepalive → (now : ℕ) → Bool
is_due None now = false
is_due (Some keepalive) now = nat_le (due_after keepalive.sent keepalive.interval) now
