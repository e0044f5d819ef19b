-- What adding a line to sections leaves.
use Rattle.std.specs.Prelude.{◌≡◌, ℕ, if◌then◌else◌, List, [], ◌∷◌, ◌++◌, Option, None, Some, drop}
use Rattle.sdp.specs.declared.track.Track.{Track}
use Rattle.sdp.specs.Fields.{is_control}

-- the first control counts
abbrev pub control_with : Option (List ℕ) → List ℕ → Option (List ℕ)
control_with None line = if is_control line then Some (drop 10 line) else None
control_with (Some control) line = Some control

-- a track with one more line
abbrev pub with_line : Track → List ℕ → Track
with_line track line = record {
  media = track.media;
  formats = track.formats;
  control = control_with track.control line;
  lines = track.lines ++ line ∷ [];
}

-- The last track has one more line, and nothing else has changed.
pub record ExtendsLast (old : List Track) (line : List ℕ) (new : List Track) : Type 0 where
  pub front : List Track
  pub track : Track
  pub was : old ≡ front ++ track ∷ []
  pub is : new ≡ front ++ with_line track line ∷ []
