-- Each section is a track or left out, after those before it.
use Rattle.std.proofs.Common.{◌≡◌, ℕ, ◌+◌, List, [], ◌∷◌, ◌++◌, Option, None, Some, Result, Ok, Err, length, ap, ◌∙◌, arith, length-append}
use Rattle.source_sdp.specs.declared.heading.Heading.{Heading}
use Rattle.source_sdp.specs.declared.reason.Reason.{Reason}
use Rattle.source_sdp.specs.declared.sorting.Sorted.{Sorted}
use Rattle.source_sdp.specs.declared.track.SourceTrack.{SourceTrack}
use Rattle.source_sdp.specs.Section.{Section}
use Rattle.source_sdp.specs.Heading.{heading_of}
use Rattle.source_sdp.specs.Sorting.{reason_after, track_of, taking, with_heading, with_section, sorted_from, sorted_out}

sorted_join : (sorted : Sorted) (place : ℕ) (sections others : List Section) → sorted_from sorted place (sections ++ others) ≡ sorted_from (sorted_from sorted place sections) (place + length sections) others
sorted_join sorted place [] others = let same : place ≡ place + 0 = omega arith in ap (λ n. sorted_from sorted n others) same
sorted_join sorted place (section ∷ sections) others =
    let same : place + 1 + length sections ≡ place + length (section ∷ sections) = omega arith in
    let next : Sorted = with_section sorted place section in
    sorted_join next (place + 1) sections others ∙ ap (λ n. sorted_from (sorted_from next (place + 1) sections) n others) same

pub next_sorted : (before : List Section) (section : Section) → sorted_out (before ++ section ∷ []) ≡ with_section (sorted_out before) (length before) section
next_sorted before section =
    let same : 0 + length before ≡ length before = omega arith in
    sorted_join (record { tracks = []; left_out = [] }) 0 before (section ∷ []) ∙ ap (λ n. with_section (sorted_out before) n section) same

abbrev count : Sorted → ℕ
count sorted = length sorted.tracks + length sorted.left_out

one_taken : (sorted : Sorted) (place : ℕ) (track : SourceTrack) (reason : Option Reason) → count (taking sorted place track reason) ≡ count sorted + 1
one_taken sorted place track None = omega (arith, length-append sorted.tracks (track ∷ []))
one_taken sorted place track (Some reason) = omega (arith, length-append sorted.left_out (record { place = place; reason = reason } ∷ []))

one_counted : (sorted : Sorted) (place : ℕ) (lines : List (List ℕ)) (heading : Result Heading Reason) → count (with_heading sorted place lines heading) ≡ count sorted + 1
one_counted sorted place lines (Err reason) = omega (arith, length-append sorted.left_out (record { place = place; reason = reason } ∷ []))
one_counted sorted place lines (Ok heading) = one_taken sorted place (track_of heading lines) (reason_after sorted.tracks lines)

all_counted : (sorted : Sorted) (place : ℕ) (sections : List Section) → count (sorted_from sorted place sections) ≡ count sorted + length sections
all_counted sorted place [] = omega arith
all_counted sorted place (section ∷ sections) =
    omega (arith, one_counted sorted place section.lines (heading_of section.head), all_counted (with_section sorted place section) (place + 1) sections)

pub each_counted : (sections : List Section) → count (sorted_out sections) ≡ length sections
each_counted sections = all_counted (record { tracks = []; left_out = [] }) 0 sections ∙ omega arith
