-- The description that is announced for tracks (RFC 4566, 5; RFC 2326, C.1.1).
use Rattle.std.specs.Prelude.{ℕ, ◌+◌, List, [], ◌∷◌, ◌++◌, codes, Some}
use Rattle.std.specs.List.{flat_map}
use Rattle.sdp.specs.declared.track.Track.{Track}
use Rattle.sdp.specs.declared.sections.Sections.{Sections}
use Rattle.sdp.specs.Fields.{control_prefix}
use Rattle.sdp.specs.Sections.{announced}
use Rattle.sdp.specs.Written.{written, track_control}
use Rattle.source_sdp.specs.declared.track.SourceTrack.{SourceTrack}
use Rattle.source_sdp.specs.Media.{media_text}

-- version, origin, name, address and time, which say nothing of the source
abbrev pub session_lines : List (List ℕ)
session_lines = codes "v=0" ∷ codes "o=- 0 0 IN IP4 0.0.0.0" ∷ codes "s=-" ∷ codes "c=IN IP4 0.0.0.0" ∷ codes "t=0 0" ∷ []

-- a format, with the space before it
abbrev pub spaced : List ℕ → List ℕ
spaced format = 32 ∷ format

-- the `m=` line of a track, with no port: m=<media> 0 RTP/AVP <fmt> ..
abbrev pub media_line : SourceTrack → List ℕ
media_line track = codes "m=" ++ (media_text track.media ++ (codes " 0 RTP/AVP" ++ flat_map spaced track.formats))

-- the control attribute of the track with a number
abbrev pub control_line : ℕ → List ℕ
control_line number = control_prefix ++ track_control number

-- the lines of the track with a number: its `m=` line, what describes its formats, as it was given, and its control
abbrev pub track_lines : ℕ → SourceTrack → List (List ℕ)
track_lines number track = media_line track ∷ (track.attributes ++ control_line number ∷ [])

-- the track with a number, as it is announced
abbrev pub announced_track : ℕ → SourceTrack → Track
announced_track number track = record {
  media = media_text track.media;
  formats = track.formats;
  control = Some (track_control number);
  lines = track_lines number track;
}

-- tracks in order, of which the first has this number
abbrev pub tracks_from : ℕ → List SourceTrack → List Track
tracks_from number [] = []
tracks_from number (track ∷ tracks) = announced_track number track ∷ tracks_from (number + 1) tracks

-- the description that is announced: exactly these tracks, in order, with the controls `trackID=0`, `trackID=1` and so on
abbrev pub announced_sections : List SourceTrack → Sections
announced_sections tracks = record { session = session_lines; tracks = tracks_from 0 tracks }

-- *Announced text*: the lines of that description, each with CRLF
abbrev pub announced_text : List SourceTrack → List ℕ
announced_text tracks = flat_map written (announced (announced_sections tracks))
