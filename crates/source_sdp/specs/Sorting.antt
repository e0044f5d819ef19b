-- Which media sections are tracks, and why others aren't.
use Rattle.std.specs.Prelude.{ℕ, ◌+◌, Bool, ◌&&◌, nat_le, if◌then◌else◌, List, [], ◌∷◌, ◌++◌, length, filter, codes, Option, None, Some, Result, Ok, Err, is_none}
use Rattle.std.specs.List.{list_any}
use Rattle.std.specs.Str.{bytes_eq}
use Rattle.source_sdp.specs.declared.heading.Heading.{Heading}
use Rattle.source_sdp.specs.declared.reason.Reason.{Reason}
use Rattle.source_sdp.specs.declared.reason.Reason.TheVariants.{SendOnly, NoControl, TooManyTracks}
use Rattle.source_sdp.specs.declared.sorting.Sorted.{Sorted}
use Rattle.source_sdp.specs.declared.track.SourceTrack.{SourceTrack}
use Rattle.source_sdp.specs.Control.{control_of}
use Rattle.source_sdp.specs.Heading.{heading_of}
use Rattle.source_sdp.specs.Section.{Section}
use Rattle.source_sdp.specs.Usable.{describes_format}

-- the section is for the client to send, as to the loudspeaker of a camera (RFC 4566, 6)
abbrev pub is_sendonly : List ℕ → Bool
is_sendonly line = bytes_eq line (codes "a=sendonly")

abbrev pub lacks_control : SourceTrack → Bool
lacks_control track = is_none track.control

-- Why a readable section isn't taken after these tracks: it is for the client to send, or it has no control, as one of them hasn't,
-- or they are 16. A track without control is asked for by the session's URL, so only one can be (RFC 2326, C.1.1).
abbrev pub reason_after : List SourceTrack → (lines : List (List ℕ)) → Option Reason
reason_after taken lines =
    if list_any is_sendonly lines then Some SendOnly
    else (if is_none (control_of lines) && list_any lacks_control taken then Some NoControl
    else (if nat_le 16 (length taken) then Some TooManyTracks else None))

-- the track that a section is
abbrev pub track_of : Heading → (lines : List (List ℕ)) → SourceTrack
track_of heading lines = record {
  media = heading.media;
  formats = heading.formats;
  attributes = filter describes_format lines;
  control = control_of lines;
}

-- one more section is left out
abbrev pub leaving_out : Sorted → (place : ℕ) → Reason → Sorted
leaving_out sorted place reason = record { tracks = sorted.tracks; left_out = sorted.left_out ++ record { place = place; reason = reason } ∷ [] }

-- one more section is taken, if there is no reason against it
abbrev pub taking : Sorted → (place : ℕ) → SourceTrack → Option Reason → Sorted
taking sorted place track None = record { tracks = sorted.tracks ++ track ∷ []; left_out = sorted.left_out }
taking sorted place track (Some reason) = leaving_out sorted place reason

-- one more section whose `m=` line says this
abbrev pub with_heading : Sorted → (place : ℕ) → (lines : List (List ℕ)) → Result Heading Reason → Sorted
with_heading sorted place lines (Err reason) = leaving_out sorted place reason
with_heading sorted place lines (Ok heading) = taking sorted place (track_of heading lines) (reason_after sorted.tracks lines)

abbrev pub with_section : Sorted → (place : ℕ) → Section → Sorted
with_section sorted place section = with_heading sorted place section.lines (heading_of section.head)

-- the sections in order, of which the first has this place
abbrev pub sorted_from : Sorted → (place : ℕ) → List Section → Sorted
sorted_from sorted place [] = sorted
sorted_from sorted place (section ∷ sections) = sorted_from (with_section sorted place section) (place + 1) sections

-- all sections, by their places from 0
abbrev pub sorted_out : List Section → Sorted
sorted_out sections = sorted_from (record { tracks = []; left_out = [] }) 0 sections
