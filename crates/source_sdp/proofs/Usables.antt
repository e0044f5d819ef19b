-- The tracks of each text can be announced.
use Rattle.std.proofs.Common.{◌≡◌, ℕ, ◌+◌, ◌<◌, Bool, true, false, nat_le, if◌then◌else◌, List, [], ◌∷◌, Option, None, Some, Result, Ok, Err, length, map, filter, drop, codes, refl, sym, ap, ◌∙◌, inl, inr, arith, length-append}
use Rattle.std.specs.List.{list_all, slice_split}
use Rattle.std.specs.Str.{bytes_eq}
use Rattle.std.proofs.lemmas.Bool.{and_parts}
use Rattle.std.proofs.lemmas.Bool.Decides.{leb_tells}
use Rattle.sdp.specs.Fields.{is_field, is_media}
use Rattle.sdp.specs.Media.{words}
use Rattle.sdp.proofs.Cuts.{true_false}
use Rattle.source_sdp.specs.declared.media.Media.{Media}
use Rattle.source_sdp.specs.declared.heading.Heading.{Heading}
use Rattle.source_sdp.specs.declared.reason.Reason.{Reason}
use Rattle.source_sdp.specs.declared.reason.Reason.TheVariants.{Unreadable, OtherProtocol, SendOnly, NoControl, TooManyTracks}
use Rattle.source_sdp.specs.declared.sorting.Sorted.{Sorted}
use Rattle.source_sdp.specs.declared.track.SourceTrack.{SourceTrack}
use Rattle.source_sdp.specs.Usable.{are_formats, describes_format, is_usable, AreUsable}
use Rattle.source_sdp.specs.Lines.{is_lf, without_padding, is_kept_line, lines_in}
use Rattle.source_sdp.specs.Section.{Section, before_media, sections_of}
use Rattle.source_sdp.specs.Heading.{media_named, heading_for, heading_by, heading_of}
use Rattle.source_sdp.specs.Sorting.{reason_after, track_of, taking, with_heading, with_section, sorted_from}
use Rattle.source_sdp.specs.Readings.{sorted_in}
use Rattle.source_sdp.proofs.Texts.{both_pass}

-- what passes among elements that pass
filter_all : {X : Type 0} (p q : X → Bool) (xs : List X) → list_all p xs ≡ true → list_all p (filter q xs) ≡ true
filter_all p q [] h = refl
filter_all p q (x ∷ xs) h =
    let parts = and_parts (p x) (list_all p xs) h in
    elim (q x) as (λ b. list_all p (if b then x ∷ filter q xs else filter q xs) ≡ true) [ true ↦ rw parts.0 (filter_all p q xs parts.1) | false ↦ filter_all p q xs parts.1 ]

filter_passes : {X : Type 0} (p : X → Bool) (xs : List X) → list_all p (filter p xs) ≡ true
filter_passes p [] = refl
filter_passes p (x ∷ xs) = go (p x) refl (filter_passes p xs)
  where
    go : (b : Bool) → p x ≡ b → list_all p (filter p xs) ≡ true → list_all p (filter p (x ∷ xs)) ≡ true
    go true e others = rw e (rw e others)
    go false e others = rw e others

-- a line that is kept and opens no section is of the form <type>=<value>
other_field : (line : List ℕ) → is_kept_line line ≡ true → is_media line ≡ false → is_field line ≡ true
other_field line kept e = rw e at kept

front_fields : (lines : List (List ℕ)) → list_all is_kept_line lines ≡ true → list_all is_field (before_media lines) ≡ true
front_fields [] h = refl
front_fields (line ∷ lines) h = go (is_media line) refl (front_fields lines parts.1)
  where
    parts : (is_kept_line line ≡ true) × (list_all is_kept_line lines ≡ true)
    parts = and_parts (is_kept_line line) (list_all is_kept_line lines) h

    go : (opens : Bool) → is_media line ≡ opens → list_all is_field (before_media lines) ≡ true → list_all is_field (before_media (line ∷ lines)) ≡ true
    go true e others = rw e refl
    go false e others = rw e (rw (other_field line parts.0 e) others)

abbrev has_fields : Section → Bool
has_fields section = list_all is_field section.lines

section_fields : (lines : List (List ℕ)) → list_all is_kept_line lines ≡ true → list_all has_fields (sections_of lines) ≡ true
section_fields [] h = refl
section_fields (line ∷ lines) h =
    let parts = and_parts (is_kept_line line) (list_all is_kept_line lines) h in
    let others = section_fields lines parts.1 in
    let section : Section = record { head = line; lines = before_media lines } in
    let first : has_fields section ≡ true = front_fields lines parts.1 in
    elim (is_media line) as (λ b. list_all has_fields (if b then section ∷ sections_of lines else sections_of lines) ≡ true) [ true ↦ rw first others | false ↦ others ]

abbrev read_as : Media → List (List ℕ) → Bool → Bool → Result Heading Reason
read_as media formats taken good = if taken then (if good then Ok (record { media = media; formats = formats }) else Err Unreadable) else Err OtherProtocol

formats_if : (media : Media) (formats : List (List ℕ)) (heading : Heading) (taken good : Bool) → are_formats formats ≡ good → read_as media formats taken good ≡ Ok heading → are_formats heading.formats ≡ true
formats_if media formats heading true true g e =
    let same : record { media = media; formats = formats } ≡ heading = cc in
    ap (λ (h : Heading). are_formats h.formats) (sym same) ∙ g
formats_if media formats heading true false g e = absurd (cc)
formats_if media formats heading false good g e = absurd (cc)

formats_for : (media : Option Media) (proto : List ℕ) (formats : List (List ℕ)) (heading : Heading) → heading_for media proto formats ≡ Ok heading → are_formats heading.formats ≡ true
formats_for None proto formats heading e = absurd (cc)
formats_for (Some media) proto formats heading e = formats_if media formats heading (bytes_eq proto (codes "RTP/AVP")) (are_formats formats) refl e

formats_by : (ws : List (List ℕ)) (heading : Heading) → heading_by ws ≡ Ok heading → are_formats heading.formats ≡ true
formats_by [] heading e = absurd (cc)
formats_by (media ∷ []) heading e = absurd (cc)
formats_by (media ∷ port ∷ []) heading e = absurd (cc)
formats_by (media ∷ port ∷ proto ∷ formats) heading e = formats_for (media_named media) proto formats heading e

formats_if_read : (line : List ℕ) (heading : Heading) (field : Bool) → (if field then heading_by (words (drop 2 line)) else Err Unreadable) ≡ Ok heading → are_formats heading.formats ≡ true
formats_if_read line heading true e = formats_by (words (drop 2 line)) heading e
formats_if_read line heading false e = absurd (cc)

formats_of : (line : List ℕ) (heading : Heading) → heading_of line ≡ Ok heading → are_formats heading.formats ≡ true
formats_of line heading e = formats_if_read line heading (is_field line) e

abbrev first_reason : Bool → Bool → Bool → Option Reason
first_reason a b c = if a then Some SendOnly else (if b then Some NoControl else (if c then Some TooManyTracks else None))

no_reason : (a b c : Bool) → first_reason a b c ≡ None → c ≡ false
no_reason true b c e = absurd (cc)
no_reason false true c e = absurd (cc)
no_reason false false true e = absurd (cc)
no_reason false false false e = refl

few_before : (taken : List SourceTrack) (lines : List (List ℕ)) → reason_after taken lines ≡ None → length taken < 16
few_before taken lines e = elim (leb_tells 16 (length taken)) [
  | inl many ↦ absurd (true_false (sym many.0 ∙ no_reason _ _ (nat_le 16 (length taken)) e))
  | inr few ↦ few.1
]

usable_track : (heading : Heading) (lines : List (List ℕ)) → are_formats heading.formats ≡ true → list_all is_field lines ≡ true → is_usable (track_of heading lines) ≡ true
usable_track heading lines formats fields = rw (formats, filter_all is_field describes_format lines fields, filter_passes describes_format lines) refl

one_more : (sorted : Sorted) (place : ℕ) (section : Section) → AreUsable sorted.tracks → has_fields section ≡ true → AreUsable (with_section sorted place section).tracks
one_more sorted place section p fields = go (heading_of section.head) refl
  where
    taken : (heading : Heading) → heading_of section.head ≡ Ok heading → (reason : Option Reason) → reason_after sorted.tracks section.lines ≡ reason
        → AreUsable (taking sorted place (track_of heading section.lines) reason).tracks
    taken heading e (Some reason) f = p
    taken heading e None f =
        let track : SourceTrack = track_of heading section.lines in
        let usable : is_usable track ≡ true = usable_track heading section.lines (formats_of section.head heading e) fields in
        record {
          each = both_pass is_usable sorted.tracks (track ∷ []) p.each (rw usable refl);
          few = omega (arith, few_before sorted.tracks section.lines f, length-append sorted.tracks (track ∷ []));
        }

    go : (heading : Result Heading Reason) → heading_of section.head ≡ heading → AreUsable (with_heading sorted place section.lines heading).tracks
    go (Err reason) e = p
    go (Ok heading) e = taken heading e (reason_after sorted.tracks section.lines) refl

usable_from : (sorted : Sorted) (place : ℕ) (sections : List Section) → AreUsable sorted.tracks → list_all has_fields sections ≡ true → AreUsable (sorted_from sorted place sections).tracks
usable_from sorted place [] p h = p
usable_from sorted place (section ∷ sections) p h =
    let parts = and_parts (has_fields section) (list_all has_fields sections) h in
    usable_from (with_section sorted place section) (place + 1) sections (one_more sorted place section p parts.0) parts.1

pub usable_in : (text : List ℕ) → AreUsable (sorted_in text).tracks
usable_in text =
    usable_from (record { tracks = []; left_out = [] }) 0 (sections_of (lines_in text)) (record { each = refl; few = omega arith })
    (section_fields (lines_in text) (filter_passes is_kept_line (map without_padding (slice_split is_lf text))))
