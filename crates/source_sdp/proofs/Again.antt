-- What is announced for tracks reads as exactly these.
use Rattle.std.proofs.Common.{◌≡◌, ℕ, ◌+◌, ◌<◌, ◌≤◌, ◌&&◌, true, false, nat_lt, List, [], ◌∷◌, ◌++◌, length, codes, refl, sym, ◌∙◌, inl, inr, arith, append-nil}
use Rattle.std.specs.List.{AllByRecursion, flat_map, list_all}
use Rattle.std.proofs.lemmas.Bool.{and_parts}
use Rattle.std.proofs.lemmas.Bool.Decides.{leb_tells}
use Rattle.sdp.specs.Fields.{is_field, is_value_byte, is_media}
use Rattle.sdp.specs.Media.{MediaLine}
use Rattle.sdp.specs.MediaForm.{HasBareEnd, AreWords, IsMedia}
use Rattle.sdp.specs.Sections.{announced, lines_of, AreGood, IsTrack}
use Rattle.sdp.specs.Readings.{Reads}
use Rattle.sdp.proofs.Cuts.{true_false}
use Rattle.sdp.proofs.Goods.{push_all, join_all}
use Rattle.sdp.proofs.MediaForms.{media_is_found}
use Rattle.sdp.proofs.Ports.{port_tells}
use Rattle.source_sdp.specs.declared.media.Media.{Media}
use Rattle.source_sdp.specs.declared.media.Media.TheVariants.{Audio, Video}
use Rattle.source_sdp.specs.declared.track.SourceTrack.{SourceTrack}
use Rattle.source_sdp.specs.Media.{media_text}
use Rattle.source_sdp.specs.Usable.{is_format, are_formats, describes_format, is_usable, AreUsable}
use Rattle.source_sdp.specs.Announced.{session_lines, spaced, media_line, control_line, track_lines, announced_track, tracks_from, announced_sections, announced_text}
use Rattle.source_sdp.proofs.GoodLines.{IsGoodLine, are_lines}
use Rattle.source_sdp.proofs.Texts.{each_passes, both_pass, bare_join, field_of}
use Rattle.source_sdp.proofs.FormatWords.{format_word, bare_formats, format_values, format_words, one_space}
use Rattle.source_sdp.proofs.PlainLines.{no_media_lines, control_found, control_field}

media_format : (media : Media) → is_format (media_text media) ≡ true
media_format Audio = refl
media_format Video = refl

media_values : (media : Media) → list_all is_value_byte (media_text media) ≡ true
media_values Audio = refl
media_values Video = refl

some_formats : (formats : List (List ℕ)) → are_formats formats ≡ true → 1 ≤ length formats
some_formats formats h =
    let parts = and_parts (nat_lt 0 (length formats)) (list_all is_format formats) h in
    elim (leb_tells 1 (length formats)) [ inl some ↦ some.1 | inr none ↦ absurd (true_false (sym parts.0 ∙ none.0)) ]

all_formats : (formats : List (List ℕ)) → are_formats formats ≡ true → list_all is_format formats ≡ true
all_formats formats h = (and_parts (nat_lt 0 (length formats)) (list_all is_format formats) h).1

abbrev media_value : SourceTrack → List ℕ
media_value track = media_text track.media ++ (codes " 0 RTP/AVP" ++ flat_map spaced track.formats)

abbrev named : SourceTrack → MediaLine
named track = record { media = media_text track.media; formats = track.formats }

ends_bare : (track : SourceTrack) → are_formats track.formats ≡ true → HasBareEnd (media_value track)
ends_bare track h =
    bare_join (media_text track.media) (codes " 0 RTP/AVP" ++ flat_map spaced track.formats)
    (bare_join (codes " 0 RTP/AVP") (flat_map spaced track.formats) (bare_formats track.formats (some_formats track.formats h) (all_formats track.formats h)))

media_words : (track : SourceTrack) → are_formats track.formats ≡ true → AreWords (media_value track) (media_text track.media ∷ codes "0" ∷ codes "RTP/AVP" ∷ track.formats)
media_words track h =
    let formats = all_formats track.formats h in
    let rest : List ℕ = flat_map spaced track.formats in (
      codes " ",
      codes "0 RTP/AVP" ++ rest,
      refl,
      format_word (media_text track.media) (media_format track.media),
      one_space,
      (codes " ", codes "RTP/AVP" ++ rest, refl, format_word (codes "0") refl, one_space, format_words (codes "RTP/AVP") track.formats (format_word (codes "RTP/AVP") refl) formats),
    )

-- the `m=` line names the track's media and formats
media_named : (track : SourceTrack) → are_formats track.formats ≡ true → IsMedia (media_value track) (named track)
media_named track h = record {
  text = media_value track;
  blanks = [];
  whole = sym (append-nil (media_value track));
  blank = λ k d below. absurd (omega (arith, below));
  ends = ends_bare track h;
  port = codes "0";
  good = port_tells (codes "0") refl;
  words = media_words track h;
  some = some_formats track.formats h;
}

media_field : (track : SourceTrack) → are_formats track.formats ≡ true → is_field (media_line track) ≡ true
media_field track h =
    field_of 109 (media_value track) refl
    (both_pass is_value_byte (media_text track.media) (codes " 0 RTP/AVP" ++ flat_map spaced track.formats) (media_values track.media)
    (both_pass is_value_byte (codes " 0 RTP/AVP") (flat_map spaced track.formats) refl (format_values track.formats (all_formats track.formats h))))

-- what a usable track has
record Usable (track : SourceTrack) : Type 0 where
  formats : are_formats track.formats ≡ true
  fields : list_all is_field track.attributes ≡ true
  attributes : list_all describes_format track.attributes ≡ true

usable : (track : SourceTrack) → is_usable track ≡ true → Usable track
usable track h =
    let parts = and_parts (are_formats track.formats) (list_all is_field track.attributes && list_all describes_format track.attributes) h in
    let lines = and_parts (list_all is_field track.attributes) (list_all describes_format track.attributes) parts.1 in
    record { formats = parts.0; fields = lines.0; attributes = lines.1 }

is_track : (number : ℕ) (track : SourceTrack) → Usable track → IsTrack (announced_track number track)
is_track number track p = record {
  head = media_line track;
  others = track.attributes ++ control_line number ∷ [];
  lines_are = refl;
  begins = refl;
  named = media_is_found (media_line track) (named track) (media_named track p.formats);
  no_other = push_all (λ l. is_media l ≡ false) track.attributes (control_line number) (no_media_lines track.attributes p.attributes) refl;
  control_is = sym (control_found track.attributes number p.attributes);
}

are_tracks : (number : ℕ) (tracks : List SourceTrack) → list_all is_usable tracks ≡ true → AllByRecursion IsTrack (tracks_from number tracks)
are_tracks number [] p = tt
are_tracks number (t ∷ tracks) p = let parts = and_parts (is_usable t) (list_all is_usable tracks) p in (is_track number t (usable t parts.0), are_tracks (number + 1) tracks parts.1)

length_from : (number : ℕ) (tracks : List SourceTrack) → length (tracks_from number tracks) ≡ length tracks
length_from number [] = refl
length_from number (t ∷ tracks) = let rest = length_from (number + 1) tracks in omega (arith, rest)

track_fields : (number : ℕ) (track : SourceTrack) → number < 16 → Usable track → AllByRecursion IsGoodLine (track_lines number track)
track_fields number track below p =
    (media_field track p.formats, push_all IsGoodLine track.attributes (control_line number) (each_passes is_field track.attributes p.fields) (control_field number below))

fields_from : (number : ℕ) (tracks : List SourceTrack) → list_all is_usable tracks ≡ true → number + length tracks ≤ 16 → AllByRecursion IsGoodLine (flat_map lines_of (tracks_from number tracks))
fields_from number [] p few = tt
fields_from number (t ∷ tracks) p few =
    let parts = and_parts (is_usable t) (list_all is_usable tracks) p in
    join_all IsGoodLine (track_lines number t) (flat_map lines_of (tracks_from (number + 1) tracks)) (track_fields number t (omega arith) (usable t parts.0)) (fields_from (number + 1) tracks parts.1 (omega arith))

session_fields : AllByRecursion IsGoodLine session_lines
session_fields = each_passes is_field session_lines refl

are_good : (tracks : List SourceTrack) → AreUsable tracks → AreGood (announced_sections tracks)
are_good tracks p = record {
  begins = refl;
  fields = join_all IsGoodLine session_lines (flat_map lines_of (tracks_from 0 tracks)) session_fields (fields_from 0 tracks p.each (omega (arith, p.few)));
  session_part = (refl, (refl, (refl, (refl, (refl, tt)))));
  track_parts = are_tracks 0 tracks p.each;
  few = omega (arith, p.few, length_from 0 tracks);
}

pub announced_reads : (tracks : List SourceTrack) → AreUsable tracks → 0 < length tracks → Reads (announced_text tracks) (announced_sections tracks)
announced_reads tracks p some =
    let good = are_good tracks p in
    record { lines = are_lines (announced (announced_sections tracks)) good.fields; good = good; some = omega (arith, some, length_from 0 tracks) }
