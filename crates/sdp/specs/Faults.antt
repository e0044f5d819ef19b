-- When a line is wrong after good ones, and by which fault. At most one holds.
use Rattle.std.specs.Prelude.{◌≡◌, ◌≢◌, ◌<◌, ℕ, true, false, List, [], length, drop, codes}
use Rattle.sdp.specs.declared.fault.SdpFault.{SdpFault}
use Rattle.sdp.specs.declared.fault.SdpFault.TheVariants.{NoVersion, BadLine, UnknownLetter, BadMedia, NoMedia, TooManyTracks, OutOfMemory}
use Rattle.sdp.specs.declared.sections.Sections.{Sections}
use Rattle.sdp.specs.Fields.{version_line, is_field, names_unknown, is_media}
use Rattle.sdp.specs.Media.{MediaLine}
use Rattle.sdp.specs.MediaForm.{IsMedia}
use Rattle.sdp.specs.Sections.{announced}

-- the faults by the numbers that the program reports
abbrev pub fault_number : SdpFault → ℕ
fault_number NoVersion = 1
fault_number BadLine = 2
fault_number UnknownLetter = 3
fault_number BadMedia = 4
fault_number NoMedia = 5
fault_number TooManyTracks = 6
fault_number OutOfMemory = 7

-- the words that a fault prints
abbrev pub fault_text : SdpFault → List ℕ
fault_text NoVersion = codes "no version line"
fault_text BadLine = codes "bad line"
fault_text UnknownLetter = codes "unknown letter"
fault_text BadMedia = codes "bad media line"
fault_text NoMedia = codes "no media line"
fault_text TooManyTracks = codes "too many tracks"
fault_text OutOfMemory = codes "out of memory"

-- The first line, and it isn't the version (RFC 4566, 5.1).
pub record LacksVersion (before : Sections) (line : List ℕ) : Type 0 where
  pub first : announced before ≡ []
  pub other : line ≢ version_line

-- A later line, and it begins with a lower-case letter that isn't listed, and an equals sign (RFC 4566, 5).
pub record HasUnknownLetter (before : Sections) (line : List ℕ) : Type 0 where
  pub later : 0 < length (announced before)
  pub unknown : names_unknown line ≡ true

-- A later line of another form than <type>=<value> (RFC 4566, 5).
pub record IsMalformed (before : Sections) (line : List ℕ) : Type 0 where
  pub later : 0 < length (announced before)
  pub known : names_unknown line ≡ false
  pub malformed : is_field line ≡ false

-- A later line of that form, and it begins `m=`.
pub record OpensTrack (before : Sections) (line : List ℕ) : Type 0 where
  pub later : 0 < length (announced before)
  pub field : is_field line ≡ true
  pub begins : is_media line ≡ true

-- An `m=` line that names no media, port, protocol and formats (RFC 4566, 5.14).
pub record NamesNothing (before : Sections) (line : List ℕ) : Type 0 where
  pub opens : OpensTrack before line
  pub nothing : (named : MediaLine) → ¬ IsMedia (drop 2 line) named

-- An `m=` line that names them after sixteen tracks.
pub record IsSeventeenth (before : Sections) (line : List ℕ) : Type 0 where
  pub opens : OpensTrack before line
  pub named : MediaLine
  pub names : IsMedia (drop 2 line) named
  pub sixteen : length before.tracks ≡ 16

-- what is wrong with a line after these
abbrev pub IsFaultAfter : Sections → List ℕ → SdpFault → Type 0
IsFaultAfter before line NoVersion = LacksVersion before line
IsFaultAfter before line BadLine = IsMalformed before line
IsFaultAfter before line UnknownLetter = HasUnknownLetter before line
IsFaultAfter before line BadMedia = NamesNothing before line
IsFaultAfter before line NoMedia = ⊥
IsFaultAfter before line TooManyTracks = IsSeventeenth before line
IsFaultAfter before line OutOfMemory = ⊥
