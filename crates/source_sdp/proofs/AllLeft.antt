-- A text whose sections can't be tracks leaves them all out.
use Rattle.std.proofs.Common.{◌≡◌, ℕ, ◌+◌, Bool, true, false, List, [], ◌∷◌, ◌++◌, Option, None, Some, Result, Ok, Err, refl, sym, ap, ◌∙◌, append-nil, append_assoc}
use Rattle.std.specs.List.{AllByRecursion, cons_option, list_any}
use Rattle.std.specs.Option.{option_map}
use Rattle.source_sdp.specs.declared.description.SourceDescription.{SourceDescription}
use Rattle.source_sdp.specs.declared.heading.Heading.{Heading}
use Rattle.source_sdp.specs.declared.left_out.LeftOut.{LeftOut}
use Rattle.source_sdp.specs.declared.reason.Reason.{Reason}
use Rattle.source_sdp.specs.declared.reason.Reason.TheVariants.{SendOnly}
use Rattle.source_sdp.specs.declared.sorting.Sorted.{Sorted}
use Rattle.source_sdp.specs.Alone.{own_reason_by, left_alone_from}
use Rattle.source_sdp.specs.Heading.{heading_of}
use Rattle.source_sdp.specs.Lines.{lines_in}
use Rattle.source_sdp.specs.Readings.{IsReading, LeavesAllOut, OffersNoTrack}
use Rattle.source_sdp.specs.Section.{Section, sections_of}
use Rattle.source_sdp.specs.Sorting.{is_sendonly, track_of, leaving_out, with_heading, sorted_from}
use Rattle.source_sdp.specs.Tracks.{offered_by, offered}

-- a section that can't be a track is left out, whatever tracks are before it
left_out_by : (sorted : Sorted) (place : ℕ) (lines : List (List ℕ)) (heading : Result Heading Reason) → offered_by heading lines ≡ None
    → (reason : Reason) × (own_reason_by heading lines ≡ Some reason) × (with_heading sorted place lines heading ≡ leaving_out sorted place reason)
left_out_by sorted place lines (Err reason) e = (reason, refl, refl)
left_out_by sorted place lines (Ok heading) e = go (list_any is_sendonly lines) refl
  where
    go : (b : Bool) → list_any is_sendonly lines ≡ b
        → (reason : Reason) × (own_reason_by (Ok heading) lines ≡ Some reason) × (with_heading sorted place lines (Ok heading) ≡ leaving_out sorted place reason)
    go true f = (SendOnly, rw f refl, rw f refl)
    go false f = let taken : Some (track_of heading lines) ≡ None = rw f at e in absurd (cc)

all_left : (sections : List Section) (place : ℕ) (sorted : Sorted) → AllByRecursion (λ section. offered section ≡ None) sections
    → sorted_from sorted place sections ≡ record { tracks = sorted.tracks; left_out = sorted.left_out ++ left_alone_from place sections }
all_left [] place sorted p = ap (λ (left : List LeftOut). record { tracks = sorted.tracks; left_out = left }) (sym (append-nil sorted.left_out))
all_left (section ∷ sections) place sorted p =
    let first = left_out_by sorted place section.lines (heading_of section.head) p.0 in
    let left : LeftOut = record { place = place; reason = first.0 } in
    let more : List LeftOut = left_alone_from (place + 1) sections in
    ap (λ (s : Sorted). sorted_from s (place + 1) sections) first.2
    ∙ all_left sections (place + 1) (leaving_out sorted place first.0) p.1
    ∙ ap (λ (ls : List LeftOut). record { tracks = sorted.tracks; left_out = ls }) (append_assoc sorted.left_out (left ∷ []) more)
    ∙ ap (λ (found : Option Reason). record { tracks = sorted.tracks; left_out = sorted.left_out ++ cons_option (option_map (λ reason. record { place = place; reason = reason }) found) more }) (sym first.1)

pub leaves_all_out : (text : List ℕ) (description : SourceDescription) → IsReading text description → OffersNoTrack text → LeavesAllOut text description
leaves_all_out text description p none =
    let sorted = all_left (sections_of (lines_in text)) 0 (record { tracks = []; left_out = [] }) none in
    record { none = p.tracks ∙ ap (λ (s : Sorted). s.tracks) sorted; all = p.left_out ∙ ap (λ (s : Sorted). s.left_out) sorted }
