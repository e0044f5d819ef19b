-- A description as a session section and its media sections (RFC 4566, 5).
use Rattle.std.specs.Prelude.{◌≡◌, ◌≤◌, ℕ, true, false, List, [], ◌∷◌, ◌++◌, length, Some}
use Rattle.std.specs.List.{AllByRecursion, flat_map}
use Rattle.sdp.specs.declared.track.Track.{Track}
use Rattle.sdp.specs.declared.sections.Sections.{Sections}
use Rattle.sdp.specs.Fields.{version_line, is_field, is_media, control_among}
use Rattle.sdp.specs.Media.{media_of}

abbrev pub lines_of : Track → List (List ℕ)
lines_of track = track.lines

-- all lines, in the order in which they were announced
abbrev pub announced : Sections → List (List ℕ)
announced sections = sections.session ++ flat_map lines_of sections.tracks

abbrev pub HasNoMedia : List (List ℕ) → Type 0
HasNoMedia lines = AllByRecursion (λ line. is_media line ≡ false) lines

-- A track is an `m=` line, what that names, and the lines after it up to the next `m=` line, with their control.
pub record IsTrack (track : Track) : Type 0 where
  pub head : List ℕ
  pub others : List (List ℕ)
  pub lines_are : track.lines ≡ head ∷ others
  pub begins : is_media head ≡ true
  pub named : media_of head ≡ Some (record { media = track.media; formats = track.formats })
  pub no_other : HasNoMedia others
  pub control_is : track.control ≡ control_among others

-- the first line, where there is one, tells the version
abbrev pub BeginsWithVersion : List (List ℕ) → Type 0
BeginsWithVersion [] = Unit {0}
BeginsWithVersion (line ∷ lines) = line ≡ version_line

-- Good lines, cut into their sections.
pub record AreGood (sections : Sections) : Type 0 where
  pub begins : BeginsWithVersion (announced sections)
  pub fields : AllByRecursion (λ line. is_field line ≡ true) (announced sections)
  pub session_part : HasNoMedia sections.session
  pub track_parts : AllByRecursion IsTrack sections.tracks
  pub few : length sections.tracks ≤ 16
