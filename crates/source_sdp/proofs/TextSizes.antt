-- The text that is announced, part by part, and how long it is.
use Rattle.std.proofs.Common.{◌≡◌, ℕ, ◌+◌, ◌<◌, Bool, true, List, [], ◌∷◌, ◌++◌, Option, None, Some, IfNone, length, get_or, ap, sym, ◌∙◌, arith, length-append}
use Rattle.std.specs.List.{flat_map}
use Rattle.std.proofs.lemmas.List.Concat.{flat_map-append}
use Rattle.sdp.specs.Sections.{lines_of}
use Rattle.sdp.specs.Written.{written}
use Rattle.source_sdp.specs.declared.track.SourceTrack.{SourceTrack}
use Rattle.source_sdp.specs.Announced.{spaced, track_lines, tracks_from}
use Rattle.source_sdp.proofs.KeptTracks.{goes_on_at, kept_from, kept_one}
use Rattle.source_sdp.proofs.Texts.{track_and_more}

-- a line, and those after it
pub lines_size : (line : List ℕ) (lines : List (List ℕ)) → length (flat_map written (line ∷ lines)) ≡ length line + 2 + length (flat_map written lines)
lines_size line lines = omega (arith, length-append (written line) (flat_map written lines), length-append line (13 ∷ 10 ∷ []))

-- a format, and those after it
pub formats_size : (format : List ℕ) (formats : List (List ℕ)) → length (flat_map spaced (format ∷ formats)) ≡ 1 + length format + length (flat_map spaced formats)
formats_size format formats = omega (arith, length-append (spaced format) (flat_map spaced formats))

-- the text of tracks of which the first has a number
abbrev pub text_from : ℕ → List SourceTrack → List ℕ
text_from number tracks = flat_map written (flat_map lines_of (tracks_from number tracks))

-- a track, and those after it
pub tracks_size : (number : ℕ) (track : SourceTrack) (tracks : List SourceTrack) → length (text_from number (track ∷ tracks)) ≡ length (flat_map written (track_lines number track)) + length (text_from (number + 1) tracks)
tracks_size number track tracks =
    ap length (flat_map-append written (track_lines number track) (flat_map lines_of (tracks_from (number + 1) tracks)))
    ∙ length-append (flat_map written (track_lines number track)) (text_from (number + 1) tracks)

-- the track of a place is the first of those that go on from there
first_is : (tracks : List SourceTrack) (kept : List Bool) (place : ℕ) (track : SourceTrack) → place < length tracks → goes_on_at kept place ≡ true → track ≡ get_or tracks place track
    → kept_from place tracks kept ≡ track ∷ kept_from (place + 1) tracks kept
first_is tracks kept place track within flag same =
    kept_one tracks kept place track within flag ∙ ap (λ (t : SourceTrack). t ∷ kept_from (place + 1) tracks kept) (sym same)

pub next_size : (tracks : List SourceTrack) (kept : List Bool) (place number : ℕ) (track : SourceTrack) → place < length tracks → goes_on_at kept place ≡ true → track ≡ get_or tracks place track
    → length (text_from number (kept_from place tracks kept)) ≡ length (flat_map written (track_lines number track)) + length (text_from (number + 1) (kept_from (place + 1) tracks kept))
next_size tracks kept place number track within flag same =
    ap (λ (ts : List SourceTrack). length (text_from number ts)) (first_is tracks kept place track within flag same)
    ∙ tracks_size number track (kept_from (place + 1) tracks kept)

pub next_text : (before : List ℕ) (tracks : List SourceTrack) (kept : List Bool) (place number : ℕ) (track : SourceTrack) → place < length tracks → goes_on_at kept place ≡ true → track ≡ get_or tracks place track
    → (before ++ flat_map written (track_lines number track)) ++ text_from (number + 1) (kept_from (place + 1) tracks kept) ≡ before ++ text_from number (kept_from place tracks kept)
next_text before tracks kept place number track within flag same =
    track_and_more before number track (kept_from (place + 1) tracks kept)
    ∙ ap (λ (ts : List SourceTrack). before ++ text_from number ts) (sym (first_is tracks kept place track within flag same))

pub if_none : {X : Type 0} (found : Option X) (P : Type 0) → P → IfNone found P
if_none None P p = p
if_none (Some x) P p = tt
