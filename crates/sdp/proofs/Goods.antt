-- Good lines, and one more.
use Rattle.std.proofs.Common.{◌≡◌, ℕ, ◌<◌, ◌≤◌, ◌==◌, true, false, cond, List, [], ◌∷◌, ◌++◌, Option, None, Some, length, drop, refl, sym, ap, subst, ◌∙◌, arith, append_assoc, append-nil, length-append}
use Rattle.std.specs.List.{AllByRecursion, flat_map, find}
use Rattle.std.specs.Option.{option_map}
use Rattle.std.proofs.lemmas.Bool.{eqb-true}
use Rattle.std.proofs.lemmas.List.Concat.{flat_map-append}
use Rattle.sdp.specs.declared.track.Track.{Track}
use Rattle.sdp.specs.declared.sections.Sections.{Sections}
use Rattle.sdp.specs.Fields.{version_line, is_field, is_media, is_control, control_among}
use Rattle.sdp.specs.Sections.{announced, lines_of, AreGood, IsTrack, BeginsWithVersion, HasNoMedia}
use Rattle.sdp.specs.Media.{MediaLine, media_of}
use Rattle.sdp.specs.Steps.{control_with, with_line, ExtendsLast}

pub push_all : {X : Type 0} (P : X → Type 0) (xs : List X) (x : X) → AllByRecursion P xs → P x → AllByRecursion P (xs ++ x ∷ [])
push_all P [] x p q = (q, tt)
push_all P (y ∷ xs) x p q = (p.0, push_all P xs x p.1 q)

pub join_all : {X : Type 0} (P : X → Type 0) (xs ys : List X) → AllByRecursion P xs → AllByRecursion P ys → AllByRecursion P (xs ++ ys)
join_all P [] ys p q = q
join_all P (x ∷ xs) ys p q = (p.0, join_all P xs ys p.1 q)

pub left_all : {X : Type 0} (P : X → Type 0) (xs ys : List X) → AllByRecursion P (xs ++ ys) → AllByRecursion P xs
left_all P [] ys p = tt
left_all P (x ∷ xs) ys p = (p.0, left_all P xs ys p.1)

pub right_all : {X : Type 0} (P : X → Type 0) (xs ys : List X) → AllByRecursion P (xs ++ ys) → AllByRecursion P ys
right_all P [] ys p = p
right_all P (x ∷ xs) ys p = right_all P xs ys p.1

-- where there is a track, there is a line
pub announced_some : (session : List (List ℕ)) (tracks : List Track) → AllByRecursion IsTrack tracks → 0 < length tracks → 0 < length (session ++ flat_map lines_of tracks)
announced_some session [] p h = absurd (omega arith)
announced_some session (t ∷ tracks) p h =
    omega (arith, ap length p.0.lines_are, length-append session (t.lines ++ flat_map lines_of tracks), length-append t.lines (flat_map lines_of tracks))

pub version_push : (lines : List (List ℕ)) (line : List ℕ) → BeginsWithVersion lines → (lines ≡ [] → line ≡ version_line) → BeginsWithVersion (lines ++ line ∷ [])
version_push [] line p q = q refl
version_push (l ∷ lines) line p q = p

control_push : (lines : List (List ℕ)) (line : List ℕ) → control_with (control_among lines) line ≡ control_among (lines ++ line ∷ [])
control_push [] line = elim (is_control line) as (λ b. cond b (Some (drop 10 line)) None ≡ option_map (drop 10) (cond b (Some line) None)) [ true ↦ refl | false ↦ refl ]
control_push (l ∷ lines) line = elim (is_control l) as (λ b. control_with (option_map (drop 10) (cond b (Some l) (find is_control lines))) line ≡ option_map (drop 10) (cond b (Some l) (find is_control (lines ++ line ∷ [])))) [ true ↦ refl | false ↦ control_push lines line ]

pub track_push : (track : Track) (line : List ℕ) → IsTrack track → is_media line ≡ false → IsTrack (with_line track line)
track_push track line p plain = record {
  head = p.head;
  others = p.others ++ line ∷ [];
  lines_are = ap (λ (l : List (List ℕ)). l ++ line ∷ []) p.lines_are;
  begins = p.begins;
  named = p.named;
  no_other = push_all (λ l. is_media l ≡ false) p.others line p.no_other plain;
  control_is = ap (λ (c : Option (List ℕ)). control_with c line) p.control_is ∙ control_push p.others line;
}

-- a line of the session section
pub session_kept : (session : List (List ℕ)) (line : List ℕ) (tracks : List Track) → tracks ≡ [] → (session ++ line ∷ []) ++ flat_map lines_of tracks ≡ (session ++ flat_map lines_of tracks) ++ line ∷ []
session_kept session line tracks none = rw none (simp append-nil)

pub tracks_kept : (session : List (List ℕ)) (line : List ℕ) {old new : List Track} → ExtendsLast old line new → session ++ flat_map lines_of new ≡ (session ++ flat_map lines_of old) ++ line ∷ []
tracks_kept session line {old} {new} e =
    let whole : flat_map lines_of new ≡ flat_map lines_of old ++ line ∷ [] =
    ap (flat_map lines_of) e.is ∙ flat_map-append lines_of e.front (with_line e.track line ∷ []) ∙ ap (λ (l : List (List ℕ)). flat_map lines_of e.front ++ l) (append-nil (e.track.lines ++ line ∷ []))
    ∙ sym (append_assoc (flat_map lines_of e.front) e.track.lines (line ∷ []))
    ∙ ap (λ (l : List (List ℕ)). l ++ line ∷ []) (sym (ap (flat_map lines_of) e.was ∙ flat_map-append lines_of e.front (e.track ∷ []) ∙ ap (λ (l : List (List ℕ)). flat_map lines_of e.front ++ l) (append-nil e.track.lines))) in
    ap (λ (l : List (List ℕ)). session ++ l) whole ∙ sym (append_assoc session (flat_map lines_of old) (line ∷ []))

-- one more line is good, where its section is
pub good_push : {old new : Sections} {line : List ℕ} → AreGood old → announced new ≡ announced old ++ line ∷ [] → (announced old ≡ [] → line ≡ version_line) → is_field line ≡ true
    → HasNoMedia new.session → AllByRecursion IsTrack new.tracks → length new.tracks ≤ 16 → AreGood new
good_push {old} {new} {line} p kept first field session tracks few = record {
  begins = subst BeginsWithVersion (sym kept) (version_push (announced old) line p.begins first);
  fields = subst (AllByRecursion (λ l. is_field l ≡ true)) (sym kept) (push_all (λ l. is_field l ≡ true) (announced old) line p.fields field);
  session_part = session;
  track_parts = tracks;
  few = few;
}

pub last_tracks : (line : List ℕ) {old new : List Track} → ExtendsLast old line new → AllByRecursion IsTrack old → is_media line ≡ false → AllByRecursion IsTrack new
last_tracks line {old} {new} e p plain =
    let all = subst (AllByRecursion IsTrack) e.was p in
    subst (AllByRecursion IsTrack) (sym e.is) (push_all IsTrack e.front (with_line e.track line) (left_all IsTrack e.front (e.track ∷ []) all) (track_push e.track line (right_all IsTrack e.front (e.track ∷ []) all).0 plain))

pub last_length : (line : List ℕ) {old new : List Track} → ExtendsLast old line new → length new ≡ length old
last_length line e = omega (arith, ap length e.is, ap length e.was, length-append e.front (with_line e.track line ∷ []), length-append e.front (e.track ∷ []))

no_lines : {lines : List (List ℕ)} → lines ≡ [] → 0 < length lines → ⊥
no_lines e h = omega (arith, ap length e, h)

-- sections with one more track
pub opened : {old : Sections} (line : List ℕ) (track : Track) (named : MediaLine) (tracks : List Track) → AreGood old → 0 < length (announced old) → is_field line ≡ true → is_media line ≡ true
    → media_of line ≡ Some named → track.media ≡ named.media → track.formats ≡ named.formats → track.control ≡ None → track.lines ≡ line ∷ [] → length old.tracks < 16 → tracks ≡ old.tracks ++ track ∷ []
    → (announced (record { session = old.session; tracks = tracks }) ≡ announced old ++ line ∷ []) × AreGood (record { session = old.session; tracks = tracks })
opened {old} line track named tracks p some field opens names media formats control lines few tracks_are =
    let is : IsTrack track = record {
      head = line;
      others = [];
      lines_are = lines;
      begins = opens;
      named = names ∙ ap (λ (m : List ℕ). Some (record { media = m; formats = named.formats })) (sym media) ∙ ap (λ (f : List (List ℕ)). Some (record { media = track.media; formats = f })) (sym formats);
      no_other = tt;
      control_is = control;
    } in
    let kept : old.session ++ flat_map lines_of tracks ≡ announced old ++ line ∷ [] =
    ap (λ (ts : List Track). old.session ++ flat_map lines_of ts) tracks_are
    ∙ ap (λ (l : List (List ℕ)). old.session ++ l) (flat_map-append lines_of old.tracks (track ∷ []) ∙ ap (λ (l : List (List ℕ)). flat_map lines_of old.tracks ++ l) (append-nil track.lines ∙ lines))
    ∙ sym (append_assoc old.session (flat_map lines_of old.tracks) (line ∷ [])) in
    let all : AllByRecursion IsTrack tracks = subst (AllByRecursion IsTrack) (sym tracks_are) (push_all IsTrack old.tracks track p.track_parts is) in
    let count : length tracks ≤ 16 = omega (arith, few, ap length tracks_are, length-append old.tracks (track ∷ [])) in
    (kept, good_push {old = old} {new = record { session = old.session; tracks = tracks }} {line = line} p kept (λ none. absurd (no_lines none some)) field p.session_part all count)

-- sections with one more line in front of the tracks
pub session_pushed : {old : Sections} (line : List ℕ) (session : List (List ℕ)) → AreGood old → old.tracks ≡ [] → (announced old ≡ [] → line ≡ version_line) → is_field line ≡ true → is_media line ≡ false → session ≡ old.session ++ line ∷ []
    → (announced (record { session = session; tracks = old.tracks }) ≡ announced old ++ line ∷ []) × AreGood (record { session = session; tracks = old.tracks })
session_pushed {old} line session p none first field plain session_is =
    let kept : session ++ flat_map lines_of old.tracks ≡ announced old ++ line ∷ [] = ap (λ (s : List (List ℕ)). s ++ flat_map lines_of old.tracks) session_is ∙ session_kept old.session line old.tracks none in
    let part : HasNoMedia session = subst HasNoMedia (sym session_is) (push_all (λ l. is_media l ≡ false) old.session line p.session_part plain) in
    (kept, good_push {old = old} {new = record { session = session; tracks = old.tracks }} {line = line} p kept first field part p.track_parts p.few)

-- no element, no list
pub nothing_in : {X : Type 0} (xs : List X) → (length xs == 0) ≡ true → xs ≡ []
nothing_in [] h = refl
nothing_in (x ∷ xs) h = absurd (omega (arith, eqb-true (length (x ∷ xs)) 0 h))
