-- What a connection reports at first, and the path of a request.
use Rattle.std.specs.Prelude.{◌≡◌, ◌⊎◌, ℕ, List, Option, None, Some, codes}
use Rattle.mounts.specs.declared.target.Target.{Target}
use Rattle.mounts.specs.declared.fault.UriFault.TheVariants.{BadUri}
use Rattle.mounts.specs.Uri.{IsRefused, IsTarget}
use Rattle.relay_log.specs.declared.events.Events.{Events}
use Rattle.relay_log.specs.declared.line_rate.LineRate.{LineRate}
use Rattle.relay_log.specs.declared.teller.Teller.{Teller}

-- no line was logged yet
abbrev pub no_line : LineRate
no_line = record { second = 0; count = 0 }

-- The connection has announced no mount, and no line of it was logged. Its lines go to this place, or nowhere.
pub record IsNew {R : Type 0} (events : Events R) (told_to : Option (Teller R)) : Type 0 where
  pub teller : events.teller ≡ told_to
  pub mount : events.mount ≡ None
  pub tracks : events.tracks ≡ None
  pub accounts : events.accounts ≡ no_line
  pub starts : events.starts ≡ no_line

-- The URI is absolute, and has this path.
pub record IsPathOf (uri path : List ℕ) : Type 0 where
  pub target : Target
  pub is_target : IsTarget uri target
  pub is_path : path ≡ target.path

-- The URI has this path. It has none if it is `*`, or no URI of RTSP.
abbrev pub IsPathIn : (uri : List ℕ) → Option (List ℕ) → Type 0
IsPathIn uri (Some path) = IsPathOf uri path
IsPathIn uri None = (uri ≡ codes "*") ⊎ IsRefused uri BadUri
