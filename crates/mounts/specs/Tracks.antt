-- Which track of a mount the rest of a path names (RFC 2326, C.1.1: a media-level control attribute is the URL of one
-- stream, absolute or relative to the base).
use Rattle.std.specs.Prelude.{◌≡◌, ◌==◌, ℕ, Bool, true, false, List, ◌∷◌, ◌++◌, ◌⊎◌, take, slice_get, codes, None, Some}
use Rattle.std.specs.List.{AllByRecursion}
use Rattle.url.specs.Parts.{Parts}
use Rattle.sdp.specs.declared.track.Track.{Track}
use Rattle.sdp.specs.Written.{track_control}
use Rattle.mounts.specs.declared.mount.Mount.{Mount}
use Rattle.mounts.specs.declared.target.Target.{Target}
use Rattle.mounts.specs.Names.{GoesOn}
use Rattle.mounts.specs.Uri.{IsRtspUrl, path_of}

-- A URL of the URI rule that has the path of the request. Its host, its query and its fragment don't count.
pub record HasPathOf (target : Target) (control : List ℕ) : Type 0 where
  pub url : Parts
  pub is : IsRtspUrl control url
  pub path : path_of url ≡ target.path

-- the rest of a path, a question mark and the request's query
abbrev pub IsRestAndQuery : (target : Target) → (rest control : List ℕ) → Type 0
IsRestAndQuery target rest control = (query : List ℕ) × (target.query ≡ Some query) × (control ≡ rest ++ 63 ∷ query)

-- An announced control is that of a request, in one of three ways: it is the rest of the path; it is that and the query;
-- it is a URL of the same path.
abbrev pub IsControlOf : (target : Target) → (rest control : List ℕ) → Type 0
IsControlOf target rest control =
    (control ≡ rest) ⊎ (IsRestAndQuery target rest control ⊎ HasPathOf target control)

-- a track that was announced with such a control
abbrev pub IsCalledBy : (target : Target) → (rest : List ℕ) → Track → Type 0
IsCalledBy target rest track = (control : List ℕ) × (track.control ≡ Some control) × IsControlOf target rest control

abbrev pub NoneIsCalledBy : (target : Target) → (rest : List ℕ) → List Track → Type 0
NoneIsCalledBy target rest tracks = AllByRecursion (λ track. IsCalledBy target rest track → ⊥) tracks

-- a track that was announced without a control of its own
abbrev pub HasNoControl : Track → Type 0
HasNoControl track = (track.control ≡ None) ⊎ (track.control ≡ Some (codes "*"))

-- The first track that was announced with a control of the request.
pub record IsFirstCalledBy (target : Target) (rest : List ℕ) (tracks : List Track) (number : ℕ) : Type 0 where
  pub track : Track
  pub there : slice_get tracks number ≡ Some track
  pub called : IsCalledBy target rest track
  pub first : NoneIsCalledBy target rest (take number tracks)

-- A track without a control of its own, by the control that players are given, where no announced control is that of
-- the request.
pub record IsNumbered (target : Target) (rest : List ℕ) (tracks : List Track) (number : ℕ) : Type 0 where
  pub track : Track
  pub there : slice_get tracks number ≡ Some track
  pub uncalled : NoneIsCalledBy target rest tracks
  pub bare : HasNoControl track
  pub named : rest ≡ track_control number

-- the track that the mount's owner names
abbrev pub IsNamedByOwner : (target : Target) → (rest : List ℕ) → List Track → ℕ → Type 0
IsNamedByOwner target rest tracks number = IsFirstCalledBy target rest tracks number ⊎ IsNumbered target rest tracks number

-- the track that anybody else names: by the control that players are given, and by nothing else
pub record IsNamedByPlayer (rest : List ℕ) (tracks : List Track) (number : ℕ) : Type 0 where
  pub track : Track
  pub there : slice_get tracks number ≡ Some track
  pub named : rest ≡ track_control number

-- the track that a connection names: by the announced controls where it owns the mount
abbrev pub IsNamedBy : (owns : Bool) → (target : Target) → (rest : List ℕ) → List Track → ℕ → Type 0
IsNamedBy true target rest tracks number = IsNamedByOwner target rest tracks number
IsNamedBy false target rest tracks number = IsNamedByPlayer rest tracks number

-- A request of a connection names a track of a mount: its path goes on after the mount's name with a slash, and what
-- stands after that slash names the track.
pub record NamesTrack (mount : Mount) (connection : ℕ) (target : Target) (number : ℕ) : Type 0 where
  pub rest : List ℕ
  pub behind : GoesOn target.path mount.name (Some rest)
  pub named : IsNamedBy (mount.owner == connection) target rest mount.description.tracks number
