-- What is read of a text isn't longer than the text.
use Rattle.std.proofs.Common.{◌≡◌, ℕ, ◌+◌, ◌-◌, ◌<◌, ◌≤◌, Bool, true, false, not, if◌then◌else◌, List, [], ◌∷◌, Option, None, Some, Result, Ok, Err, length, map, filter, drop, codes, refl, sym, ap, ◌∙◌, inl, inr, arith, length-append, length-take, length-drop}
use Rattle.std.specs.List.{slice_split, onto_first, suffix_len, sum_by, find}
use Rattle.std.specs.Option.{option_map}
use Rattle.std.specs.Str.{bytes_eq}
use Rattle.std.proofs.lemmas.Bool.{and_parts, cases_Bool}
use Rattle.std.proofs.lemmas.List.Sums.{sum_by-cons, sum_by_push}
use Rattle.base_syntax.specs.Lines.{has_bytes}
use Rattle.sdp.specs.Fields.{is_field, is_media, is_control, control_among}
use Rattle.sdp.specs.Media.{words, is_space}
use Rattle.sdp.proofs.Cuts.{true_false}
use Rattle.source_sdp.specs.declared.media.Media.{Media}
use Rattle.source_sdp.specs.declared.heading.Heading.{Heading}
use Rattle.source_sdp.specs.declared.reason.Reason.{Reason}
use Rattle.source_sdp.specs.declared.reason.Reason.TheVariants.{Unreadable, OtherProtocol}
use Rattle.source_sdp.specs.declared.description.SourceDescription.{SourceDescription}
use Rattle.source_sdp.specs.declared.sorting.Sorted.{Sorted}
use Rattle.source_sdp.specs.Usable.{are_formats, describes_format}
use Rattle.source_sdp.specs.Lines.{is_lf, without_padding, is_padding, is_kept_line, lines_in}
use Rattle.source_sdp.specs.Control.{is_base, names_track, control_of}
use Rattle.source_sdp.specs.Section.{Section, before_media, sections_of, whole_section}
use Rattle.source_sdp.specs.Heading.{media_named, heading_for, heading_by, heading_of}
use Rattle.source_sdp.specs.Sorting.{reason_after, track_of, leaving_out, taking, with_heading, with_section, sorted_from}
use Rattle.source_sdp.specs.Readings.{IsReading}
use Rattle.source_sdp.specs.Sizes.{size_of_text, size_of_lines, size_of_track, size_of}
use Rattle.source_sdp.proofs.PlainLines.{plain}

next_size : (line : List ℕ) (lines : List (List ℕ)) → size_of_lines (line ∷ lines) ≡ length line + size_of_lines lines
next_size line lines = sum_by-cons length line lines

-- the parts of a text
onto_size : (b : ℕ) (parts : List (List ℕ)) → size_of_lines (onto_first b parts) ≡ 1 + size_of_lines parts
onto_size b [] = refl
onto_size b (part ∷ parts) = omega (arith, next_size (b ∷ part) parts, next_size part parts)

split_size : (p : ℕ → Bool) (text : List ℕ) → size_of_lines (slice_split p text) ≤ length text
split_size p [] = omega arith
split_size p (b ∷ text) =
    let rest = split_size p text in
    elim (p b) as (λ c. size_of_lines (if c then [] ∷ slice_split p text else onto_first b (slice_split p text)) ≤ length (b ∷ text)) [
      | true ↦ omega (arith, rest, next_size [] (slice_split p text))
      | false ↦ omega (arith, rest, onto_size b (slice_split p text))
    ]

kept_size : (p : List ℕ → Bool) (lines : List (List ℕ)) → size_of_lines (filter p lines) ≤ size_of_lines lines
kept_size p [] = omega arith
kept_size p (line ∷ lines) =
    let rest = kept_size p lines in
    elim (p line) as (λ c. size_of_lines (if c then line ∷ filter p lines else filter p lines) ≤ size_of_lines (line ∷ lines)) [
      | true ↦ omega (arith, rest, next_size line (filter p lines), next_size line lines)
      | false ↦ omega (arith, rest, next_size line lines)
    ]

padding_size : (lines : List (List ℕ)) → size_of_lines (map without_padding lines) ≤ size_of_lines lines
padding_size [] = omega arith
padding_size (line ∷ lines) =
    omega (arith, padding_size lines, next_size line lines, next_size (without_padding line) (map without_padding lines), length-take (length line - suffix_len is_padding line) line)

lines_size : (text : List ℕ) → size_of_lines (lines_in text) ≤ length text
lines_size text =
    omega (arith, kept_size is_kept_line (map without_padding (slice_split is_lf text)), padding_size (slice_split is_lf text), split_size is_lf text)

words_size : (text : List ℕ) → size_of_lines (words text) ≤ length text
words_size text = omega (arith, kept_size has_bytes (slice_split is_space text), split_size is_space text)

-- the control of a session
session_size : (lines : List (List ℕ)) → size_of_text (control_among lines) ≤ size_of_lines lines
session_size [] = omega arith
session_size (line ∷ lines) =
    let rest = session_size lines in
    elim (is_control line) as (λ c. size_of_text (option_map (drop 10) (if c then Some line else find is_control lines)) ≤ size_of_lines (line ∷ lines)) [
      | true ↦ omega (arith, next_size line lines, length-drop 10 line)
      | false ↦ omega (arith, rest, next_size line lines)
    ]

-- the control of a track, and those of its lines that describe formats
control_size : (lines : List (List ℕ)) → size_of_text (control_of lines) ≤ size_of_lines lines
control_size [] = omega arith
control_size (line ∷ lines) =
    let rest = control_size lines in
    elim (names_track line) as (λ c. size_of_text (option_map (drop 10) (if c then Some line else find names_track lines)) ≤ size_of_lines (line ∷ lines)) [
      | true ↦ omega (arith, next_size line lines, length-drop 10 line)
      | false ↦ omega (arith, rest, next_size line lines)
    ]

undescribed : (line : List ℕ) → names_track line ≡ true → describes_format line ≡ false
undescribed line h =
    let control = (and_parts (is_control line) (not (is_base (drop 10 line))) h).0 in
    elim (cases_Bool (describes_format line)) [ inl described ↦ absurd (true_false (sym control ∙ (plain line described).1)) | inr other ↦ other ]

section_size : (lines : List (List ℕ)) → size_of_lines (filter describes_format lines) + size_of_text (control_of lines) ≤ size_of_lines lines
section_size [] = omega arith
section_size (line ∷ lines) = go (names_track line) (describes_format line) refl refl (section_size lines)
  where
    go : (control described : Bool) → names_track line ≡ control → describes_format line ≡ described
        → size_of_lines (filter describes_format lines) + size_of_text (control_of lines) ≤ size_of_lines lines
        → size_of_lines (filter describes_format (line ∷ lines)) + size_of_text (control_of (line ∷ lines)) ≤ size_of_lines (line ∷ lines)
    go true true e f rest = absurd (true_false (sym f ∙ undescribed line e))
    go true false e f rest = rw (e, f) (omega (arith, kept_size describes_format lines, next_size line lines, length-drop 10 line))
    go false true e f rest = rw (e, f) (omega (arith, rest, next_size line lines, next_size line (filter describes_format lines)))
    go false false e f rest = rw (e, f) (omega (arith, rest, next_size line lines))

formats_for : (media : Option Media) (proto : List ℕ) (formats : List (List ℕ)) (heading : Heading) → heading_for media proto formats ≡ Ok heading → heading.formats ≡ formats
formats_for None proto formats heading e = absurd (cc)
formats_for (Some media) proto formats heading e = go (bytes_eq proto (codes "RTP/AVP")) (are_formats formats) e
  where
    go : (known good : Bool) → (if known then (if good then Ok (record { media = media; formats = formats }) else Err Unreadable) else Err OtherProtocol) ≡ Ok heading → heading.formats ≡ formats
    go true true e = let same : record { media = media; formats = formats } ≡ heading = cc in sym (ap (λ (h : Heading). h.formats) same)
    go true false e = absurd (cc)
    go false good e = absurd (cc)

formats_by : (ws : List (List ℕ)) (heading : Heading) → heading_by ws ≡ Ok heading → size_of_lines heading.formats ≤ size_of_lines ws
formats_by [] heading e = absurd (cc)
formats_by (media ∷ []) heading e = absurd (cc)
formats_by (media ∷ port ∷ []) heading e = absurd (cc)
formats_by (media ∷ port ∷ proto ∷ formats) heading e =
    let same = ap size_of_lines (formats_for (media_named media) proto formats heading e) in
    omega (arith, same, next_size media (port ∷ proto ∷ formats), next_size port (proto ∷ formats), next_size proto formats)

formats_size : (line : List ℕ) (heading : Heading) → heading_of line ≡ Ok heading → size_of_lines heading.formats ≤ length line
formats_size line heading e = go (is_field line) e
  where
    go : (field : Bool) → (if field then heading_by (words (drop 2 line)) else Err Unreadable) ≡ Ok heading → size_of_lines heading.formats ≤ length line
    go true f = omega (arith, formats_by (words (drop 2 line)) heading f, words_size (drop 2 line), length-drop 2 line)
    go false f = absurd (cc)

-- what sorting holds
abbrev held : Sorted → ℕ
held sorted = sum_by size_of_track sorted.tracks + length sorted.left_out

abbrev section_bytes : Section → ℕ
section_bytes section = size_of_lines (whole_section section)

one_held : (sorted : Sorted) (place : ℕ) (section : Section) → 0 < length section.head → held (with_section sorted place section) ≤ held sorted + section_bytes section
one_held sorted place section some = go (heading_of section.head) refl
  where
    left : (reason : Reason) → held (leaving_out sorted place reason) ≤ held sorted + section_bytes section
    left reason = omega (arith, some, next_size section.head section.lines, length-append sorted.left_out (record { place = place; reason = reason } ∷ []))

    more : (heading : Heading) → heading_of section.head ≡ Ok heading → (reason : Option Reason) → held (taking sorted place (track_of heading section.lines) reason) ≤ held sorted + section_bytes section
    more heading e (Some reason) = left reason
    more heading e None =
        omega (arith, next_size section.head section.lines, sum_by_push size_of_track sorted.tracks (track_of heading section.lines), formats_size section.head heading e, section_size section.lines)

    go : (heading : Result Heading Reason) → heading_of section.head ≡ heading → held (with_heading sorted place section.lines heading) ≤ held sorted + section_bytes section
    go (Err reason) e = left reason
    go (Ok heading) e = more heading e (reason_after sorted.tracks section.lines)

some_head : (line : List ℕ) → is_media line ≡ true → 0 < length line
some_head [] h = absurd (true_false (sym h))
some_head (b ∷ line) h = omega arith

-- the sections of lines, and what is before them
abbrev Fits : List (List ℕ) → Sorted → ℕ → Type 0
Fits lines sorted place = held (sorted_from sorted place (sections_of lines)) + size_of_lines (before_media lines) ≤ held sorted + size_of_lines lines

abbrev first_section : List ℕ → List (List ℕ) → Section
first_section line lines = record { head = line; lines = before_media lines }

opened : (line : List ℕ) (lines : List (List ℕ)) → is_media line ≡ true → sections_of (line ∷ lines) ≡ first_section line lines ∷ sections_of lines
opened line lines e = rw e refl

none_before : (line : List ℕ) (lines : List (List ℕ)) → is_media line ≡ true → size_of_lines (before_media (line ∷ lines)) ≡ 0
none_before line lines e = rw e refl

one_opened : (line : List ℕ) (lines : List (List ℕ)) (sorted : Sorted) (place : ℕ) → is_media line ≡ true
    → Fits lines (with_section sorted place (first_section line lines)) (place + 1) → Fits (line ∷ lines) sorted place
one_opened line lines sorted place e more =
    let section : Section = first_section line lines in
    let one : held (with_section sorted place section) ≤ held sorted + section_bytes section = one_held sorted place section (some_head line e) in
    let size : section_bytes section ≡ length line + size_of_lines (before_media lines) = next_size line (before_media lines) in
    let whole : held (sorted_from sorted place (sections_of (line ∷ lines))) ≡ held (sorted_from (with_section sorted place section) (place + 1) (sections_of lines)) =
    ap (λ (sections : List Section). held (sorted_from sorted place sections)) (opened line lines e) in
    omega (arith, whole, none_before line lines e, one, size, more, next_size line lines)

all_held : (lines : List (List ℕ)) (sorted : Sorted) (place : ℕ) → Fits lines sorted place
all_held [] sorted place = omega arith
all_held (line ∷ lines) sorted place =
    go (is_media line) refl (all_held lines sorted place) (all_held lines (with_section sorted place (first_section line lines)) (place + 1))
  where
    go : (opens : Bool) → is_media line ≡ opens → Fits lines sorted place → Fits lines (with_section sorted place (first_section line lines)) (place + 1) → Fits (line ∷ lines) sorted place
    go true e same more = one_opened line lines sorted place e more
    go false e same more = rw e (omega (arith, same, next_size line lines, next_size line (before_media lines)))

pub bounded : (text : List ℕ) (description : SourceDescription) → IsReading text description → size_of description ≤ length text
bounded text description p =
    let lines : List (List ℕ) = lines_in text in
    let whole : Fits lines (record { tracks = []; left_out = [] }) 0 = all_held lines (record { tracks = []; left_out = [] }) 0 in
    let control : size_of_text description.control ≤ size_of_lines (before_media lines) = rw p.control (session_size (before_media lines)) in
    omega (arith, whole, control, lines_size text, ap (sum_by size_of_track) p.tracks, ap length p.left_out)
