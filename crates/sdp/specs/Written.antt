-- The description that players are given (RFC 2326, C.1.1): the announced lines with this server's controls.
use Rattle.std.specs.Prelude.{◌≡◌, ℕ, ◌+◌, not, List, [], ◌∷◌, ◌++◌, filter, codes, decimal, Some}
use Rattle.std.specs.List.{flat_map}
use Rattle.sdp.specs.declared.track.Track.{Track}
use Rattle.sdp.specs.declared.sections.Sections.{Sections}
use Rattle.sdp.specs.Fields.{is_control, control_prefix}

-- a line as it is written
abbrev pub written : List ℕ → List ℕ
written line = line ++ codes "\r\n"

abbrev pub without_controls : List (List ℕ) → List (List ℕ)
without_controls lines = filter (λ line. not (is_control line)) lines

-- the control of the track with a number, counted from 0
abbrev pub track_control : ℕ → List ℕ
track_control number = codes "trackID=" ++ decimal number

abbrev pub session_lines : Sections → List (List ℕ)
session_lines sections = without_controls sections.session ++ (control_prefix ++ codes "*") ∷ []

abbrev pub track_lines : ℕ → Track → List (List ℕ)
track_lines number track = without_controls track.lines ++ (control_prefix ++ track_control number) ∷ []

-- the lines of tracks, of which the first has this number
abbrev pub lines_from : ℕ → List Track → List (List ℕ)
lines_from number [] = []
lines_from number (track ∷ tracks) = track_lines number track ++ lines_from (number + 1) tracks

-- *Description text*
abbrev pub description_text : Sections → List ℕ
description_text sections = flat_map written (session_lines sections ++ lines_from 0 sections.tracks)

-- the same media and formats, with this server's controls
abbrev pub AreSameTracks : ℕ → List Track → List Track → Type 0
AreSameTracks number [] [] = Unit {0}
AreSameTracks number [] (other ∷ others) = ⊥
AreSameTracks number (track ∷ tracks) [] = ⊥
AreSameTracks number (track ∷ tracks) (other ∷ others) =
    (other.media ≡ track.media) × (other.formats ≡ track.formats) × (other.control ≡ Some (track_control number))
    × AreSameTracks (number + 1) tracks others
