-- How many lines of one address may be logged in a second. Moments are milliseconds.
use Rattle.std.specs.Prelude.{◌≢◌, ℕ, ◌+◌, ◌/◌, ◌==◌, ◌<◌, ◌⊎◌, if◌then◌else◌}
use Rattle.relay_log.specs.declared.line_rate.LineRate.{LineRate}

-- a line may be logged: none was logged in this second yet, or fewer than ten were
abbrev pub MayTell : LineRate → (now : ℕ) → Type 0
MayTell rate now = rate.second ≢ now / 1000 ⊎ rate.count < 10

-- the rate after one more line is logged
abbrev pub told_once_more : LineRate → (now : ℕ) → LineRate
told_once_more rate now = record { second = now / 1000; count = if rate.second == now / 1000 then rate.count + 1 else 1 }
