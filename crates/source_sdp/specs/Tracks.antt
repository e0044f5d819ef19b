-- Which tracks are taken of media sections, all at once.
use Rattle.std.specs.Prelude.{ℕ, not, if◌then◌else◌, List, [], ◌∷◌, take, filter, Option, None, Some, Result, Ok, Err}
use Rattle.std.specs.List.{list_any, filter_map}
use Rattle.source_sdp.specs.declared.heading.Heading.{Heading}
use Rattle.source_sdp.specs.declared.reason.Reason.{Reason}
use Rattle.source_sdp.specs.declared.track.SourceTrack.{SourceTrack}
use Rattle.source_sdp.specs.Heading.{heading_of}
use Rattle.source_sdp.specs.Section.{Section}
use Rattle.source_sdp.specs.Sorting.{is_sendonly, lacks_control, track_of}

-- the track that a readable section is, if it isn't for the client to send
abbrev pub offered_by : Result Heading Reason → (lines : List (List ℕ)) → Option SourceTrack
offered_by (Err reason) lines = None
offered_by (Ok heading) lines = if list_any is_sendonly lines then None else Some (track_of heading lines)

abbrev pub offered : Section → Option SourceTrack
offered section = offered_by (heading_of section.head) section.lines

-- the tracks that have a control
abbrev pub controlled : List SourceTrack → List SourceTrack
controlled tracks = filter (λ track. not (lacks_control track)) tracks

-- the tracks without those that lack a control, but for the first of these
abbrev pub told_apart : List SourceTrack → List SourceTrack
told_apart [] = []
told_apart (track ∷ tracks) = track ∷ (if lacks_control track then controlled tracks else told_apart tracks)

-- the first 16 of those that can be told apart
abbrev pub tracks_among : List Section → List SourceTrack
tracks_among sections = take 16 (told_apart (filter_map offered sections))
