-- The tracks that sorting leaves are the first 16 that can be told apart.
use Rattle.std.proofs.Common.{◌≡◌, ℕ, ◌+◌, ◌<◌, ◌≤◌, ◌&&◌, ◌||◌, Bool, true, false, nat_le, List, [], ◌∷◌, ◌++◌, Option, None, Some, Result, Ok, Err, length, take, refl, sym, ap, ◌∙◌, inl, inr, arith, length-append, append-nil, append_assoc}
use Rattle.std.specs.Prelude.{is_none}
use Rattle.std.specs.List.{list_any, filter_map}
use Rattle.std.proofs.lemmas.Bool.Decides.{leb_tells}
use Rattle.std.proofs.lemmas.List.{take_all, take_at}
use Rattle.std.proofs.lemmas.List.Folds.{list_any-append}
use Rattle.sdp.proofs.Cuts.{true_false}
use Rattle.source_sdp.specs.declared.heading.Heading.{Heading}
use Rattle.source_sdp.specs.declared.reason.Reason.{Reason}
use Rattle.source_sdp.specs.declared.reason.Reason.TheVariants.{SendOnly, NoControl, TooManyTracks}
use Rattle.source_sdp.specs.declared.sorting.Sorted.{Sorted}
use Rattle.source_sdp.specs.declared.track.SourceTrack.{SourceTrack}
use Rattle.source_sdp.specs.Section.{Section}
use Rattle.source_sdp.specs.Control.{control_of}
use Rattle.source_sdp.specs.Heading.{heading_of}
use Rattle.source_sdp.specs.Sorting.{is_sendonly, lacks_control, reason_after, track_of, leaving_out, taking, with_heading, with_section, sorted_from, sorted_out}
use Rattle.source_sdp.specs.Tracks.{offered_by, offered, controlled, told_apart, tracks_among}

-- those that can be told apart from tracks before them, of which one lacks a control or none does
abbrev apart_after : Bool → List SourceTrack → List SourceTrack
apart_after true tracks = controlled tracks
apart_after false tracks = told_apart tracks

abbrev with_more : List SourceTrack → List SourceTrack → List SourceTrack
with_more taken tracks = take 16 (taken ++ apart_after (list_any lacks_control taken) tracks)

none_after : (b : Bool) → apart_after b [] ≡ []
none_after true = refl
none_after false = refl

no_more : (taken : List SourceTrack) → length taken ≤ 16 → with_more taken [] ≡ taken
no_more taken few = ap (λ (ts : List SourceTrack). take 16 (taken ++ ts)) (none_after (list_any lacks_control taken)) ∙ ap (take 16) (append-nil taken) ∙ take_all 16 taken few

full : (taken more : List SourceTrack) → length taken ≡ 16 → take 16 (taken ++ more) ≡ taken
full taken more e = take_at taken more 16 e

-- a track that can't be told apart
same_again : (track : SourceTrack) (tracks : List SourceTrack) → lacks_control track ≡ true → controlled (track ∷ tracks) ≡ controlled tracks
same_again track tracks e = rw e refl

-- a track that can
next_apart : (b l : Bool) (track : SourceTrack) (tracks : List SourceTrack) → lacks_control track ≡ l → (l && b) ≡ false → apart_after b (track ∷ tracks) ≡ track ∷ apart_after (b || l) tracks
next_apart true true track tracks e h = absurd (true_false h)
next_apart true false track tracks e h = rw e refl
next_apart false true track tracks e h = rw e refl
next_apart false false track tracks e h = rw e refl

or_false : (b l : Bool) → (b || (l || false)) ≡ (b || l)
or_false true l = refl
or_false false true = refl
or_false false false = refl

one_taken : (taken : List SourceTrack) (track : SourceTrack) (tracks : List SourceTrack) → (lacks_control track && list_any lacks_control taken) ≡ false
    → with_more (taken ++ track ∷ []) tracks ≡ with_more taken (track ∷ tracks)
one_taken taken track tracks h =
    let b : Bool = list_any lacks_control taken in
    let l : Bool = lacks_control track in
    let bare : list_any lacks_control (taken ++ track ∷ []) ≡ (b || l) = list_any-append lacks_control taken (track ∷ []) ∙ or_false b l in
    ap (λ c. take 16 ((taken ++ track ∷ []) ++ apart_after c tracks)) bare
    ∙ ap (take 16) (append_assoc taken (track ∷ []) (apart_after (b || l) tracks) ∙ ap (λ (ts : List SourceTrack). taken ++ ts) (sym (next_apart b l track tracks refl h)))

-- what is after one more section: what the others leave, if they are sorted so
abbrev Others : ℕ → List Section → Type 0
Others place sections = (sorted : Sorted) → length sorted.tracks ≤ 16 → (sorted_from sorted place sections).tracks ≡ with_more sorted.tracks (filter_map offered sections)

bare_again : (taken : List SourceTrack) (track : SourceTrack) (tracks : List SourceTrack) → (lacks_control track && list_any lacks_control taken) ≡ true → with_more taken tracks ≡ with_more taken (track ∷ tracks)
bare_again taken track tracks h = go (lacks_control track) (list_any lacks_control taken) refl refl h
  where
    go : (l b : Bool) → lacks_control track ≡ l → list_any lacks_control taken ≡ b → (l && b) ≡ true → with_more taken tracks ≡ with_more taken (track ∷ tracks)
    go true true e f k = rw f (ap (λ (ts : List SourceTrack). take 16 (taken ++ ts)) (sym (same_again track tracks e)))
    go true false e f k = absurd (true_false (sym k))
    go false b e f k = absurd (true_false (sym k))

-- the tracks that a section and others offer
abbrev offered_with : Option SourceTrack → List Section → List SourceTrack
offered_with None sections = filter_map offered sections
offered_with (Some track) sections = track ∷ filter_map offered sections

offered-cons : (found : Option SourceTrack) (section : Section) (sections : List Section) → offered section ≡ found → filter_map offered (section ∷ sections) ≡ offered_with found sections
offered-cons None section sections e = rw e refl
offered-cons (Some track) section sections e = rw e refl

abbrev Sorts : Sorted → ℕ → Heading → List (List ℕ) → List Section → Type 0
Sorts sorted place heading lines sections =
    (sorted_from (taking sorted place (track_of heading lines) (reason_after sorted.tracks lines)) (place + 1) sections).tracks
    ≡ with_more sorted.tracks (offered_with (offered_by (Ok heading) lines) sections)

is_full : (taken : List SourceTrack) → length taken ≤ 16 → nat_le 16 (length taken) ≡ true → length taken ≡ 16
is_full taken few h = elim (leb_tells 16 (length taken)) [ inl many ↦ omega (arith, few, many.1) | inr less ↦ absurd (true_false (sym h ∙ less.0)) ]

has_room : (taken : List SourceTrack) → nat_le 16 (length taken) ≡ false → length taken < 16
has_room taken h = elim (leb_tells 16 (length taken)) [ inl many ↦ absurd (true_false (sym many.0 ∙ h)) | inr less ↦ less.1 ]

readable : (sorted : Sorted) (place : ℕ) (heading : Heading) (lines : List (List ℕ)) (sections : List Section) → length sorted.tracks ≤ 16 → Others (place + 1) sections
    → (s b f : Bool) → list_any is_sendonly lines ≡ s → (is_none (control_of lines) && list_any lacks_control sorted.tracks) ≡ b → nat_le 16 (length sorted.tracks) ≡ f
    → Sorts sorted place heading lines sections
readable sorted place heading lines sections few others true b f e g h = rw e (others (leaving_out sorted place SendOnly) few)
readable sorted place heading lines sections few others false true f e g h =
    rw (e, g) (others (leaving_out sorted place NoControl) few ∙ bare_again sorted.tracks (track_of heading lines) (filter_map offered sections) g)
readable sorted place heading lines sections few others false false true e g h =
    let sixteen = is_full sorted.tracks few h in
    let bare : Bool = list_any lacks_control sorted.tracks in
    rw (e, g, h)
    (others (leaving_out sorted place TooManyTracks) few ∙ full sorted.tracks (apart_after bare (filter_map offered sections)) sixteen
    ∙ sym (full sorted.tracks (apart_after bare (track_of heading lines ∷ filter_map offered sections)) sixteen))
readable sorted place heading lines sections few others false false false e g h =
    let track : SourceTrack = track_of heading lines in
    let room = has_room sorted.tracks h in
    let more : length (sorted.tracks ++ track ∷ []) ≤ 16 = omega (arith, room, length-append sorted.tracks (track ∷ [])) in
    rw (e, g, h) (others (record { tracks = sorted.tracks ++ track ∷ []; left_out = sorted.left_out }) more ∙ one_taken sorted.tracks track (filter_map offered sections) g)

one_section : (sorted : Sorted) (place : ℕ) (section : Section) (sections : List Section) → length sorted.tracks ≤ 16 → Others (place + 1) sections
    → (sorted_from (with_section sorted place section) (place + 1) sections).tracks ≡ with_more sorted.tracks (filter_map offered (section ∷ sections))
one_section sorted place section sections few others = go (heading_of section.head) refl
  where
    go : (heading : Result Heading Reason) → heading_of section.head ≡ heading
        → (sorted_from (with_section sorted place section) (place + 1) sections).tracks ≡ with_more sorted.tracks (filter_map offered (section ∷ sections))
    go (Err reason) e = rw e (others (leaving_out sorted place reason) few)
    go (Ok heading) e =
        let found : offered section ≡ offered_by (Ok heading) section.lines = ap (λ (h : Result Heading Reason). offered_by h section.lines) e in
        ap (λ (h : Result Heading Reason). (sorted_from (with_heading sorted place section.lines h) (place + 1) sections).tracks) e
        ∙ readable sorted place heading section.lines sections few others (list_any is_sendonly section.lines)
        (is_none (control_of section.lines) && list_any lacks_control sorted.tracks) (nat_le 16 (length sorted.tracks)) refl refl refl
        ∙ ap (with_more sorted.tracks) (sym (offered-cons (offered_by (Ok heading) section.lines) section sections found))

all_sections : (sections : List Section) (place : ℕ) → Others place sections
all_sections [] place sorted few = sym (no_more sorted.tracks few)
all_sections (section ∷ sections) place sorted few = one_section sorted place section sections few (all_sections sections (place + 1))

pub first_told_apart : (sections : List Section) → (sorted_out sections).tracks ≡ tracks_among sections
first_told_apart sections = all_sections sections 0 (record { tracks = []; left_out = [] }) (omega arith)
