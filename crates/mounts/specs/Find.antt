-- Which live mount a path names (RFC 2326, 3.2: the URL identifies a presentation or a stream of one).
use Rattle.std.specs.Prelude.{◌≡◌, ℕ, ◌<◌, List, length, Option, None, Some}
use Rattle.mounts.specs.declared.mount.Mount.{Mount}
use Rattle.mounts.specs.Mounts.{named}
use Rattle.mounts.specs.Names.{GoesOn}

-- The longest beginning of the path that names a live mount, among the whole path and the beginnings that end before a
-- slash: the mount's number, and what is left after that slash.
pub record IsFoundIn (mounts : List Mount) (path : List ℕ) (number : ℕ) (rest : Option (List ℕ)) : Type 0 where
  pub mount : Mount
  pub name : List ℕ
  pub goes_on : GoesOn path name rest
  pub live : named name mounts ≡ Some mount
  pub number_is : mount.number ≡ number
  pub longest : (longer : List ℕ) (other : Option (List ℕ)) → GoesOn path longer other → length name < length longer → named longer mounts ≡ None

-- no beginning of the path names a live mount
abbrev pub IsNowhereIn : List Mount → List ℕ → Type 0
IsNowhereIn mounts path = (name : List ℕ) (rest : Option (List ℕ)) → GoesOn path name rest → named name mounts ≡ None
