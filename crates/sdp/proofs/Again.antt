-- Reading what was written.
use Rattle.std.proofs.Common.{◌≡◌, ℕ, ◌+◌, ◌<◌, ◌≤◌, ◌^◌, ◌==◌, ◌&&◌, Bool, true, false, not, nat_lt, cond, List, [], ◌∷◌, ◌++◌, Option, Some, length, map, filter, codes, decimal, refl, sym, ap, subst, ◌∙◌, inl, inr, arith, append_assoc}
use Rattle.std.specs.List.{AllByRecursion, flat_map, list_all}
use Rattle.std.specs.Str.Parse.{AllDigits}
use Rattle.std.specs.Char.{digit_value}
use Rattle.std.proofs.lemmas.Fmt.{decimal_is_IsNumeral}
use Rattle.std.proofs.lemmas.Bool.{and_parts, eqb-true}
use Rattle.std.proofs.lemmas.Bool.Decides.{eqb_tells, leb_tells}
use Rattle.sdp.specs.declared.track.Track.{Track}
use Rattle.sdp.specs.declared.sections.Sections.{Sections}
use Rattle.base_syntax.specs.Lines.{HasNoLf, ended, said, has_bytes}
use Rattle.sdp.specs.Lines.{AreLines}
use Rattle.sdp.specs.Fields.{version_line, is_field, is_value_byte, is_letter, has_equals, is_media, is_control, control_among, control_prefix}
use Rattle.sdp.specs.Sections.{announced, lines_of, AreGood, IsTrack, BeginsWithVersion}
use Rattle.sdp.specs.Written.{written, without_controls, track_control, session_lines, track_lines, lines_from, description_text, AreSameTracks}
use Rattle.sdp.specs.Readings.{Reads}
use Rattle.sdp.proofs.Cuts.{true_false}
use Rattle.base_syntax.proofs.LineEnds.{said-cr}
use Rattle.sdp.proofs.Goods.{push_all, join_all, left_all, right_all}

abbrev IsGoodLine : List ℕ → Type 0
IsGoodLine line = is_field line ≡ true

written_ended : (lines : List (List ℕ)) → flat_map written lines ≡ flat_map ended (map (λ l. l ++ 13 ∷ []) lines) ++ []
written_ended [] = refl
written_ended (l ∷ lines) = ap (λ (r : List ℕ). written l ++ r) (written_ended lines) ∙ ap (λ (w : List ℕ). w ++ (flat_map ended (map (λ x. x ++ 13 ∷ []) lines) ++ [])) (sym (append_assoc l (13 ∷ []) (10 ∷ []))) ∙ sym (append_assoc (ended (l ++ 13 ∷ [])) (flat_map ended (map (λ x. x ++ 13 ∷ []) lines)) [])

value_byte : (b : ℕ) → is_value_byte b ≡ true → (b == 10) ≡ false
value_byte b h = elim (eqb_tells b 10) [ inl same ↦ absurd (true_false (sym h ∙ ap is_value_byte same.1)) | inr other ↦ other.0 ]

letter_byte : (b : ℕ) → is_letter b ≡ true → (b == 10) ≡ false
letter_byte b h = elim (eqb_tells b 10) [ inl same ↦ absurd (true_false (sym h ∙ ap is_letter same.1)) | inr other ↦ other.0 ]

no_lf_value : (value : List ℕ) → list_all is_value_byte value ≡ true → HasNoLf (value ++ 13 ∷ [])
no_lf_value [] h = (refl, tt)
no_lf_value (b ∷ value) h = let parts = and_parts (is_value_byte b) (list_all is_value_byte value) h in (value_byte b parts.0, no_lf_value value parts.1)

-- a good line has no LF, and isn't empty
no_lf_field : (line : List ℕ) → IsGoodLine line → HasNoLf (line ++ 13 ∷ []) × (has_bytes line ≡ true)
no_lf_field [] h = absurd (true_false (sym h))
no_lf_field (b ∷ []) h = absurd (true_false (sym h))
no_lf_field (b ∷ c ∷ value) h =
    let parts = and_parts (has_equals (b ∷ c ∷ value)) (is_letter b && list_all is_value_byte value) h in
    let equals = and_parts (nat_lt 1 (length (b ∷ c ∷ value))) (c == 61) parts.0 in
    let rest = and_parts (is_letter b) (list_all is_value_byte value) parts.1 in
    let second : (c == 10) ≡ false = rw (eqb-true c 61 equals.1) refl in
    ((letter_byte b rest.0, (second, no_lf_value value rest.1)), refl)

lines_again : (lines : List (List ℕ)) → AllByRecursion IsGoodLine lines → lines ≡ filter has_bytes (map said (map (λ l. l ++ 13 ∷ []) lines) ++ [] ∷ [])
lines_again [] p = refl
lines_again (l ∷ lines) p = rw (said-cr, (no_lf_field l p.0).1) (ap (λ (r : List (List ℕ)). l ∷ r) (lines_again lines p.1))

unbroken_again : (lines : List (List ℕ)) → AllByRecursion IsGoodLine lines → AllByRecursion HasNoLf (map (λ l. l ++ 13 ∷ []) lines)
unbroken_again [] p = tt
unbroken_again (l ∷ lines) p = ((no_lf_field l p.0).0, unbroken_again lines p.1)

are_lines : (lines : List (List ℕ)) → AllByRecursion IsGoodLine lines → AreLines (flat_map written lines) lines
are_lines lines p = record {
  whole_lines = map (λ l. l ++ 13 ∷ []) lines;
  last = [];
  whole = written_ended lines;
  unbroken = unbroken_again lines p;
  last_unbroken = tt;
  lines_are = lines_again lines p;
}

-- a track with another control
abbrev renumbered : ℕ → Track → Track
renumbered number track = record { media = track.media; formats = track.formats; control = Some (track_control number); lines = track_lines number track }

abbrev renumbered_from : ℕ → List Track → List Track
renumbered_from number [] = []
renumbered_from number (track ∷ tracks) = renumbered number track ∷ renumbered_from (number + 1) tracks

abbrev again : Sections → Sections
again sections = record { session = session_lines sections; tracks = renumbered_from 0 sections.tracks }

lines_renumbered : (number : ℕ) (tracks : List Track) → flat_map lines_of (renumbered_from number tracks) ≡ lines_from number tracks
lines_renumbered number [] = refl
lines_renumbered number (t ∷ tracks) = ap (λ (l : List (List ℕ)). track_lines number t ++ l) (lines_renumbered (number + 1) tracks)

length_renumbered : (number : ℕ) (tracks : List Track) → length (renumbered_from number tracks) ≡ length tracks
length_renumbered number [] = refl
length_renumbered number (t ∷ tracks) = let rest = length_renumbered (number + 1) tracks in omega (arith, rest)

same_renumbered : (number : ℕ) (tracks : List Track) → AreSameTracks number tracks (renumbered_from number tracks)
same_renumbered number [] = tt
same_renumbered number (t ∷ tracks) = (refl, refl, refl, same_renumbered (number + 1) tracks)

kept_all : (P : List ℕ → Type 0) (lines : List (List ℕ)) → AllByRecursion P lines → AllByRecursion P (without_controls lines)
kept_all P [] p = tt
kept_all P (l ∷ lines) p = elim (is_control l) as (λ b. AllByRecursion P (cond (not b) (l ∷ without_controls lines) (without_controls lines))) [ true ↦ kept_all P lines p.1 | false ↦ (p.0, kept_all P lines p.1) ]

media_no_control : (line : List ℕ) → is_media line ≡ true → is_control line ≡ false
media_no_control [] h = absurd (true_false (sym h))
media_no_control (b ∷ bs) h = elim (eqb_tells b 109) [ inl same ↦ rw same.1 refl | inr other ↦ absurd (true_false (sym (and_parts (b == 109) _ h).0 ∙ other.0)) ]

control_step : (l : List ℕ) (b : Bool) → is_control l ≡ b → (kept : List (List ℕ)) (control : List ℕ) (r : Option (List ℕ)) → control_among (kept ++ control ∷ []) ≡ r → control_among (cond (not b) (l ∷ kept) kept ++ control ∷ []) ≡ r
control_step l true e kept control r h = h
control_step l false e kept control r h = rw e h

control_kept : (lines : List (List ℕ)) (number : ℕ) → control_among (without_controls lines ++ (control_prefix ++ track_control number) ∷ []) ≡ Some (track_control number)
control_kept [] number = refl
control_kept (l ∷ lines) number = control_step l (is_control l) refl (without_controls lines) (control_prefix ++ track_control number) (Some (track_control number)) (control_kept lines number)

track_again : (number : ℕ) (track : Track) → IsTrack track → IsTrack (renumbered number track)
track_again number track p = record {
  head = p.head;
  others = without_controls p.others ++ (control_prefix ++ track_control number) ∷ [];
  lines_are = ap (λ (ls : List (List ℕ)). without_controls ls ++ (control_prefix ++ track_control number) ∷ []) p.lines_are ∙ rw (media_no_control p.head p.begins) refl;
  begins = p.begins;
  named = p.named;
  no_other = push_all (λ l. is_media l ≡ false) (without_controls p.others) (control_prefix ++ track_control number) (kept_all (λ l. is_media l ≡ false) p.others p.no_other) refl;
  control_is = sym (control_kept p.others number);
}

tracks_again : (number : ℕ) (tracks : List Track) → AllByRecursion IsTrack tracks → AllByRecursion IsTrack (renumbered_from number tracks)
tracks_again number [] p = tt
tracks_again number (t ∷ tracks) p = (track_again number t p.0, tracks_again (number + 1) tracks p.1)

digit_byte : (c : ℕ) → digit_value c < 10 → is_value_byte c ≡ true
digit_byte c h = elim (eqb_tells c 0) [
  | inl nul ↦ absurd (let bad : digit_value 0 < 10 = subst (λ (n : ℕ). digit_value n < 10) nul.1 h in omega (arith, bad))
  | inr some ↦ elim (eqb_tells c 10) [
    | inl lf ↦ absurd (let bad : digit_value 10 < 10 = subst (λ (n : ℕ). digit_value n < 10) lf.1 h in omega (arith, bad))
    | inr other ↦ elim (eqb_tells c 13) [
      | inl cr ↦ absurd (let bad : digit_value 13 < 10 = subst (λ (n : ℕ). digit_value n < 10) cr.1 h in omega (arith, bad))
      | inr last ↦ rw (some.0, other.0, last.0) refl
    ]
  ]
]

lt_big : (n : ℕ) → n < 16 → n < 2 ^ 64
lt_big n h = omega arith

with_values : (digits : List ℕ) → list_all is_value_byte digits ≡ true → IsGoodLine (control_prefix ++ codes "trackID=" ++ digits)
with_values digits h = elim (leb_tells 2 (length (control_prefix ++ codes "trackID=" ++ digits))) [ inl long ↦ rw long.0 h | inr short ↦ absurd (omega (arith, short.1)) ]

digits_are_values : (digits : List ℕ) → AllDigits 10 digits → list_all is_value_byte digits ≡ true
digits_are_values [] p = refl
digits_are_values (c ∷ digits) p = rw (digit_byte c p.0) (digits_are_values digits p.1)

field_control : (n : ℕ) → n < 16 → IsGoodLine (control_prefix ++ track_control n)
field_control n h =
    let numeral = decimal_is_IsNumeral n (lt_big n h) in
    let values : list_all is_value_byte (decimal n) ≡ true = digits_are_values (decimal n) numeral.0.1 in
    with_values (decimal n) values

fields_again : (number : ℕ) (tracks : List Track) → AllByRecursion IsGoodLine (flat_map lines_of tracks) → number + length tracks ≤ 16 → AllByRecursion IsGoodLine (flat_map lines_of (renumbered_from number tracks))
fields_again number [] p h = tt
fields_again number (t ∷ tracks) p h =
    join_all IsGoodLine (track_lines number t) (flat_map lines_of (renumbered_from (number + 1) tracks))
    (push_all IsGoodLine (without_controls t.lines) (control_prefix ++ track_control number) (kept_all IsGoodLine t.lines (left_all IsGoodLine t.lines (flat_map lines_of tracks) p)) (field_control number (omega arith)))
    (fields_again (number + 1) tracks (right_all IsGoodLine t.lines (flat_map lines_of tracks) p) (omega arith))

begins_again : (session : List (List ℕ)) (tracks : List Track) (control : List ℕ) (more : List (List ℕ)) → BeginsWithVersion (session ++ flat_map lines_of tracks) → AllByRecursion IsTrack tracks → 0 < length tracks → BeginsWithVersion ((without_controls session ++ control ∷ []) ++ more)
begins_again (l ∷ session) tracks control more p q h = rw p refl
begins_again [] [] control more p q h = absurd (omega arith)
begins_again [] (t ∷ tracks) control more p q h =
    let first : q.0.head ≡ version_line = subst (λ (ls : List (List ℕ)). BeginsWithVersion (ls ++ flat_map lines_of tracks)) q.0.lines_are p in
    absurd (true_false (sym q.0.begins ∙ ap is_media first))

good_again : (old : Sections) → AreGood old → 0 < length old.tracks → AreGood (again old)
good_again old p some = record {
  begins = begins_again old.session old.tracks (control_prefix ++ codes "*") (flat_map lines_of (renumbered_from 0 old.tracks)) p.begins p.track_parts some;
  fields = join_all IsGoodLine (session_lines old) (flat_map lines_of (renumbered_from 0 old.tracks))
      (push_all IsGoodLine (without_controls old.session) (control_prefix ++ codes "*") (kept_all IsGoodLine old.session (left_all IsGoodLine old.session (flat_map lines_of old.tracks) p.fields)) refl)
      (fields_again 0 old.tracks (right_all IsGoodLine old.session (flat_map lines_of old.tracks) p.fields) (omega (arith, p.few)));
  session_part = push_all (λ l. is_media l ≡ false) (without_controls old.session) (control_prefix ++ codes "*") (kept_all (λ l. is_media l ≡ false) old.session p.session_part) refl;
  track_parts = tracks_again 0 old.tracks p.track_parts;
  few = omega (arith, p.few, length_renumbered 0 old.tracks);
}

-- what is written of good sections reads as good sections again
pub written_again : (old : Sections) → AreGood old → 0 < length old.tracks → (new : Sections) × Reads (description_text old) new × AreSameTracks 0 old.tracks new.tracks
written_again old p some =
    let good = good_again old p some in
    let text : flat_map written (announced (again old)) ≡ description_text old = ap (λ (ls : List (List ℕ)). flat_map written (session_lines old ++ ls)) (lines_renumbered 0 old.tracks) in
    (again old, record { lines = subst (λ (t : List ℕ). AreLines t (announced (again old))) text (are_lines (announced (again old)) good.fields); good = good; some = omega (arith, some, length_renumbered 0 old.tracks) }, same_renumbered 0 old.tracks)
