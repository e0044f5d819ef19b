-- What the status of a reply says to a client (RFC 2326, 7.1.1).
use Rattle.std.specs.Prelude.{◌≡◌, ℕ, ◌<◌, ◌≤◌, ◌⊎◌}
use Rattle.rtsp_client.specs.declared.status_class.StatusClass.{StatusClass}
use Rattle.rtsp_client.specs.declared.status_class.StatusClass.TheVariants.{Provisional, Success, Moved, OtherRedirect, Unauthorized, NoSession, Refusal}

-- it is none of the statuses that mean something of their own
abbrev pub IsPlain : ℕ → Type 0
IsPlain status = (status ≡ 301 → ⊥) × (status ≡ 302 → ⊥) × (status ≡ 401 → ⊥) × (status ≡ 454 → ⊥)

-- the status has this class
abbrev pub HasClass : ℕ → StatusClass → Type 0
HasClass status Provisional = (100 ≤ status) × (status < 200)
HasClass status Success = (200 ≤ status) × (status < 300)
HasClass status Moved = (status ≡ 301) ⊎ (status ≡ 302)
HasClass status OtherRedirect = IsPlain status × (300 ≤ status) × (status < 400)
HasClass status Unauthorized = status ≡ 401
HasClass status NoSession = status ≡ 454
HasClass status Refusal = IsPlain status × ((status < 100) ⊎ (400 ≤ status))
