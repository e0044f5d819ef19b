-- What a server's description is read as.
use Rattle.std.specs.Prelude.{◌≡◌, ℕ, List, [], None, codes}
use Rattle.std.specs.List.{AllByRecursion}
use Rattle.sdp.specs.Fields.{control_among}
use Rattle.source_sdp.specs.declared.description.SourceDescription.{SourceDescription}
use Rattle.source_sdp.specs.declared.read_error.ReadError.{ReadError}
use Rattle.source_sdp.specs.declared.read_error.ReadError.TheVariants.{TooLong, OutOfMemory}
use Rattle.source_sdp.specs.declared.sorting.Sorted.{Sorted}
use Rattle.source_sdp.specs.Alone.{left_alone_from}
use Rattle.source_sdp.specs.Lines.{lines_in}
use Rattle.source_sdp.specs.Section.{before_media, sections_of}
use Rattle.source_sdp.specs.Sorting.{sorted_out}
use Rattle.source_sdp.specs.Tracks.{offered}

-- the sections of a text, sorted out
abbrev pub sorted_in : List ℕ → Sorted
sorted_in text = sorted_out (sections_of (lines_in text))

-- The description has the tracks of the text, what is left out of it, and the control before its sections.
pub record IsReading (text : List ℕ) (description : SourceDescription) : Type 0 where
  pub control : description.control ≡ control_among (before_media (lines_in text))
  pub tracks : description.tracks ≡ (sorted_in text).tracks
  pub left_out : description.left_out ≡ (sorted_in text).left_out

-- no media section of the text can be a track
abbrev pub OffersNoTrack : List ℕ → Type 0
OffersNoTrack text = AllByRecursion (λ section. offered section ≡ None) (sections_of (lines_in text))

-- The description has no track. All media sections of the text are left out of it, each for what its own lines say.
pub record LeavesAllOut (text : List ℕ) (description : SourceDescription) : Type 0 where
  pub none : description.tracks ≡ []
  pub all : description.left_out ≡ left_alone_from 0 (sections_of (lines_in text))

-- the words that an error prints
abbrev pub error_text : ReadError → List ℕ
error_text TooLong = codes "description too long"
error_text OutOfMemory = codes "out of memory"
