-- How many bytes and entries a description holds.
use Rattle.std.specs.Prelude.{ℕ, ◌+◌, List, length, Option, None, Some, sum_by}
use Rattle.source_sdp.specs.declared.description.SourceDescription.{SourceDescription}
use Rattle.source_sdp.specs.declared.track.SourceTrack.{SourceTrack}

abbrev pub size_of_text : Option (List ℕ) → ℕ
size_of_text None = 0
size_of_text (Some text) = length text

-- the bytes of lines
abbrev pub size_of_lines : List (List ℕ) → ℕ
size_of_lines lines = sum_by length lines

-- the bytes that a track holds
abbrev pub size_of_track : SourceTrack → ℕ
size_of_track track = size_of_lines track.formats + (size_of_lines track.attributes + size_of_text track.control)

-- the bytes that a description holds, and an entry for each section that is left out
abbrev pub size_of : SourceDescription → ℕ
size_of description = size_of_text description.control + (sum_by size_of_track description.tracks + length description.left_out)
