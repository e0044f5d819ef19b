-- When its silence ends a connection.
use Rattle.std.specs.Prelude.{◌≡◌, ℕ, ◌≤◌, true, false, Option, None, Some}
use Rattle.relay_connection.specs.declared.idle_policy.IdlePolicy.{IdlePolicy}
use Rattle.relay_connection.specs.declared.idle_policy.QuietTime.{QuietTime}

-- it has lasted for as long as it may, if there is a limit
abbrev pub IsOver : (most : Option ℕ) → (time : ℕ) → Type 0
IsOver None time = ⊥
IsOver (Some most) time = most ≤ time

-- A connection that announced a mount has set up no track of it for too long, whatever else it sent.
abbrev pub IsNotSetUp : QuietTime → Type 0
IsNotSetUp quiet = quiet.is_unset ≡ true

-- Else one that records is silent for too long.
abbrev pub IsTooSilent : IdlePolicy → QuietTime → Type 0
IsTooSilent policy quiet = (quiet.is_unset ≡ false) × (quiet.is_recording ≡ true) × IsOver policy.silent quiet.time

-- Else one without a session is.
abbrev pub IsIdle : IdlePolicy → QuietTime → Type 0
IsIdle policy quiet = (quiet.is_unset ≡ false) × (IsTooSilent policy quiet → ⊥) × (quiet.has_session ≡ false) × IsOver policy.idle quiet.time
