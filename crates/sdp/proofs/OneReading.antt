-- A text reads in one way.
use Rattle.std.proofs.Common.{◌≡◌, ◌≢◌, ◌⊎◌, ℕ, ◌+◌, ◌<◌, true, List, [], ◌∷◌, ◌++◌, Some, length, map, filter, refl, sym, ap, subst, ◌∙◌, inl, inr, arith, append_assoc, length-append}
use Rattle.std.specs.List.{AllByRecursion, flat_map}
use Rattle.std.proofs.lemmas.List.Elements.{filter-append}
use Rattle.sdp.specs.declared.fault.SdpFault.{SdpFault}
use Rattle.sdp.specs.declared.fault.SdpFault.TheVariants.{NoVersion, BadLine, UnknownLetter, BadMedia, NoMedia, TooManyTracks, OutOfMemory}
use Rattle.sdp.specs.declared.track.Track.{Track}
use Rattle.sdp.specs.declared.sections.Sections.{Sections}
use Rattle.base_syntax.specs.Lines.{HasNoLf, ended, said, has_bytes}
use Rattle.sdp.specs.Lines.{AreLines}
use Rattle.sdp.specs.Fields.{is_field, is_media, control_among}
use Rattle.sdp.specs.Media.{MediaLine, media_of}
use Rattle.sdp.specs.Sections.{announced, lines_of, AreGood, IsTrack, BeginsWithVersion, HasNoMedia}
use Rattle.sdp.specs.Faults.{IsFaultAfter}
use Rattle.sdp.specs.Written.{description_text, AreSameTracks}
use Rattle.sdp.specs.Readings.{Reads, HasBadLine, HasNoTrack, IsRefused}
use Rattle.base_syntax.proofs.LineEnds.{same_line, no_whole_line}
use Rattle.base_syntax.proofs.Lists.{same_head, same_tail, same_cons, nothing_is_more}
use Rattle.sdp.proofs.Cuts.{true_false}
use Rattle.sdp.proofs.Goods.{join_all, right_all, announced_some}
use Rattle.sdp.proofs.MediaForms.{media_tells}
use Rattle.sdp.proofs.OneFault.{field_known, one_fault}
use Rattle.sdp.proofs.Again.{written_again}

same_cut : (ls : List (List ℕ)) (x : List ℕ) (ms : List (List ℕ)) (y : List ℕ) → AllByRecursion HasNoLf ls → HasNoLf x → AllByRecursion HasNoLf ms → HasNoLf y → flat_map ended ls ++ x ≡ flat_map ended ms ++ y → (ls ≡ ms) × (x ≡ y)
same_cut [] x [] y p a q b e = (refl, e)
same_cut [] x (m ∷ ms) y p a q b e = absurd (no_whole_line x m (flat_map ended ms ++ y) a (e ∙ append_assoc (ended m) (flat_map ended ms) y))
same_cut (l ∷ ls) x [] y p a q b e = absurd (no_whole_line y l (flat_map ended ls ++ x) b (sym e ∙ append_assoc (ended l) (flat_map ended ls) x))
same_cut (l ∷ ls) x (m ∷ ms) y p a q b e =
    let line = same_line l (flat_map ended ls ++ x) m (flat_map ended ms ++ y) p.0 q.0 (sym (append_assoc (ended l) (flat_map ended ls) x) ∙ e ∙ append_assoc (ended m) (flat_map ended ms) y) in
    let rest = same_cut ls x ms y p.1 a q.1 b line.1 in
    (same_cons line.0 rest.0, rest.1)

-- a text has one list of lines
same_lines : {text : List ℕ} {ls ms : List (List ℕ)} → AreLines text ls → AreLines text ms → ls ≡ ms
same_lines p q =
    let same = same_cut p.whole_lines p.last q.whole_lines q.last p.unbroken p.last_unbroken q.unbroken q.last_unbroken (sym p.whole ∙ q.whole) in
    p.lines_are ∙ ap (λ (ls : List (List ℕ)). filter has_bytes (map said ls ++ p.last ∷ [])) same.0 ∙ ap (λ (l : List ℕ). filter has_bytes (map said q.whole_lines ++ l ∷ [])) same.1 ∙ sym q.lines_are

-- lines that an `m=` line begins, or none
abbrev BeginsWithMedia : List (List ℕ) → Type 0
BeginsWithMedia [] = Unit {0}
BeginsWithMedia (line ∷ lines) = is_media line ≡ true

-- lines without an `m=` line end where one begins
same_front : (s x t y : List (List ℕ)) → HasNoMedia s → BeginsWithMedia x → HasNoMedia t → BeginsWithMedia y → s ++ x ≡ t ++ y → (s ≡ t) × (x ≡ y)
same_front [] x [] y p a q b e = (refl, e)
same_front [] x (m ∷ t) y p a q b e = absurd (true_false (sym (subst BeginsWithMedia e a) ∙ q.0))
same_front (l ∷ s) x [] y p a q b e = absurd (true_false (sym (subst BeginsWithMedia (sym e) b) ∙ p.0))
same_front (l ∷ s) x (m ∷ t) y p a q b e = let rest = same_front s x t y p.1 a q.1 b (same_tail e) in (same_cons (same_head e) rest.0, rest.1)

tracks_begin : (tracks : List Track) → AllByRecursion IsTrack tracks → BeginsWithMedia (flat_map lines_of tracks)
tracks_begin [] p = tt
tracks_begin (t ∷ tracks) p = subst (λ (ls : List (List ℕ)). BeginsWithMedia (ls ++ flat_map lines_of tracks)) (sym p.0.lines_are) p.0.begins

same_named : {a b : MediaLine} → Some a ≡ Some b → a ≡ b
same_named e = cc

track_eq : (x y : Track) → x.media ≡ y.media → x.formats ≡ y.formats → x.control ≡ y.control → x.lines ≡ y.lines → x ≡ y
track_eq x y a b c d = rw (a, b, c, d) refl

-- a track is what its lines say
same_track : (x y : Track) (p : IsTrack x) (q : IsTrack y) → p.head ≡ q.head → p.others ≡ q.others → x ≡ y
same_track x y p q head others =
    let named = same_named (sym p.named ∙ ap media_of head ∙ q.named) in
    track_eq x y (ap (λ (m : MediaLine). m.media) named) (ap (λ (m : MediaLine). m.formats) named)
    (p.control_is ∙ ap control_among others ∙ sym q.control_is) (p.lines_are ∙ same_cons head others ∙ sym q.lines_are)

same_tracks : (xs ys : List Track) → AllByRecursion IsTrack xs → AllByRecursion IsTrack ys → flat_map lines_of xs ≡ flat_map lines_of ys → xs ≡ ys
same_tracks [] [] p q e = refl
same_tracks [] (y ∷ ys) p q e = absurd (nothing_is_more (e ∙ ap (λ (ls : List (List ℕ)). ls ++ flat_map lines_of ys) q.0.lines_are))
same_tracks (x ∷ xs) [] p q e = absurd (nothing_is_more (sym e ∙ ap (λ (ls : List (List ℕ)). ls ++ flat_map lines_of xs) p.0.lines_are))
same_tracks (x ∷ xs) (y ∷ ys) p q e =
    let apart : p.0.head ∷ (p.0.others ++ flat_map lines_of xs) ≡ q.0.head ∷ (q.0.others ++ flat_map lines_of ys) =
    sym (ap (λ (ls : List (List ℕ)). ls ++ flat_map lines_of xs) p.0.lines_are) ∙ e ∙ ap (λ (ls : List (List ℕ)). ls ++ flat_map lines_of ys) q.0.lines_are in
    let rest = same_front p.0.others (flat_map lines_of xs) q.0.others (flat_map lines_of ys) p.0.no_other (tracks_begin xs p.1) q.0.no_other (tracks_begin ys q.1) (same_tail apart) in
    same_cons (same_track x y p.0 q.0 (same_head apart) rest.0) (same_tracks xs ys p.1 q.1 rest.1)

sections_eq : (x y : Sections) → x.session ≡ y.session → x.tracks ≡ y.tracks → x ≡ y
sections_eq x y a b = rw (a, b) refl

-- good sections are what their lines say
same_sections : (x y : Sections) → AreGood x → AreGood y → announced x ≡ announced y → x ≡ y
same_sections x y p q e =
    let parts = same_front x.session (flat_map lines_of x.tracks) y.session (flat_map lines_of y.tracks) p.session_part (tracks_begin x.tracks p.track_parts) q.session_part (tracks_begin y.tracks q.track_parts) e in
    sections_eq x y parts.0 (same_tracks x.tracks y.tracks p.track_parts q.track_parts parts.1)

pub one_reading : {text : List ℕ} {x y : Sections} → Reads text x → Reads text y → x ≡ y
one_reading {x = x} {y = y} p q = same_sections x y p.good q.good (same_lines p.lines q.lines)

-- how many tracks lines open
abbrev count : List (List ℕ) → ℕ
count lines = length (filter is_media lines)

no_media : (lines : List (List ℕ)) → HasNoMedia lines → filter is_media lines ≡ []
no_media [] p = refl
no_media (l ∷ lines) p = rw p.0 (no_media lines p.1)

kept_media : (line : List ℕ) (lines : List (List ℕ)) → is_media line ≡ true → filter is_media (line ∷ lines) ≡ line ∷ filter is_media lines
kept_media line lines e = rw e refl

count_join : (xs ys : List (List ℕ)) → count (xs ++ ys) ≡ count xs + count ys
count_join xs ys = ap length (filter-append is_media xs ys) ∙ length-append (filter is_media xs) (filter is_media ys)

count_track : (track : Track) → IsTrack track → count track.lines ≡ 1
count_track track p = ap count p.lines_are ∙ ap length (kept_media p.head p.others p.begins) ∙ ap (λ (ls : List (List ℕ)). length (p.head ∷ ls)) (no_media p.others p.no_other)

count_tracks : (tracks : List Track) → AllByRecursion IsTrack tracks → count (flat_map lines_of tracks) ≡ length tracks
count_tracks [] p = refl
count_tracks (t ∷ tracks) p = omega (arith, count_join t.lines (flat_map lines_of tracks), count_track t p.0, count_tracks tracks p.1)

count_announced : (sections : Sections) → AreGood sections → count (announced sections) ≡ length sections.tracks
count_announced sections p = omega (arith, count_join sections.session (flat_map lines_of sections.tracks), ap length (no_media sections.session p.session_part), count_tracks sections.tracks p.track_parts)

-- an `m=` line names what it opens
abbrev NamesMedia : List ℕ → Type 0
NamesMedia line = is_media line ≡ true → (named : MediaLine) × (media_of line ≡ Some named)

plain_named : (lines : List (List ℕ)) → HasNoMedia lines → AllByRecursion NamesMedia lines
plain_named [] p = tt
plain_named (l ∷ lines) p = (λ opens. absurd (true_false (sym opens ∙ p.0)), plain_named lines p.1)

tracks_named : (tracks : List Track) → AllByRecursion IsTrack tracks → AllByRecursion NamesMedia (flat_map lines_of tracks)
tracks_named [] p = tt
tracks_named (t ∷ tracks) p =
    join_all NamesMedia t.lines (flat_map lines_of tracks)
    (subst (AllByRecursion NamesMedia) (sym p.0.lines_are) (λ opens. (record { media = t.media; formats = t.formats }, p.0.named), plain_named p.0.others p.0.no_other))
    (tracks_named tracks p.1)

all_named : (sections : Sections) → AreGood sections → AllByRecursion NamesMedia (announced sections)
all_named sections p = join_all NamesMedia sections.session (flat_map lines_of sections.tracks) (plain_named sections.session p.session_part) (tracks_named sections.tracks p.track_parts)

few_before : (sections : Sections) (before : List (List ℕ)) (line : List ℕ) (after : List (List ℕ)) → AreGood sections → announced sections ≡ before ++ line ∷ after → is_media line ≡ true → count before < 16
few_before sections before line after p e opens =
    omega (arith, p.few, count_announced sections p, ap count e, count_join before (line ∷ after), ap length (kept_media line after opens))

field_at : (sections before : Sections) (line : List ℕ) (after : List (List ℕ)) → AreGood sections → announced sections ≡ announced before ++ line ∷ after → is_field line ≡ true
field_at sections before line after p e = (right_all (λ x. is_field x ≡ true) (announced before) (line ∷ after) (subst (AllByRecursion (λ x. is_field x ≡ true)) e p.fields)).0

-- no line of good sections has a fault
no_fault : (sections before : Sections) (line : List ℕ) (after : List (List ℕ)) → AreGood sections → AreGood before → announced sections ≡ announced before ++ line ∷ after → (fault : SdpFault) → IsFaultAfter before line fault → ⊥
no_fault sections before line after p q e NoVersion fault =
    fault.other (subst BeginsWithVersion (e ∙ ap (λ (ls : List (List ℕ)). ls ++ line ∷ after) fault.first) p.begins)
no_fault sections before line after p q e UnknownLetter fault = true_false (sym fault.unknown ∙ field_known line (field_at sections before line after p e))
no_fault sections before line after p q e BadLine fault = true_false (sym (field_at sections before line after p e) ∙ fault.malformed)
no_fault sections before line after p q e BadMedia fault =
    let named = (right_all NamesMedia (announced before) (line ∷ after) (subst (AllByRecursion NamesMedia) e (all_named sections p))).0 fault.opens.begins in
    fault.nothing named.0 (media_tells line named.0 named.1)
no_fault sections before line after p q e NoMedia fault = fault
no_fault sections before line after p q e TooManyTracks fault =
    omega (arith, few_before sections (announced before) line after p e fault.opens.begins, count_announced before q, fault.sixteen)
no_fault sections before line after p q e OutOfMemory fault = fault

-- good lines have no bad one among them
good_not_bad : (sections : Sections) → AreGood sections → {text : List ℕ} {fault : SdpFault} (q : HasBadLine text fault) (more : List (List ℕ)) → announced sections ≡ announced q.before ++ q.line ∷ more → ⊥
good_not_bad sections p {fault = fault} q more e = no_fault sections q.before q.line more p q.good e fault q.wrong

abbrev Places : List (List ℕ) → List ℕ → List (List ℕ) → List ℕ → Type 0
Places x a y b = ((x ≡ y) × (a ≡ b)) ⊎ (((more : List (List ℕ)) × (y ≡ x ++ a ∷ more)) ⊎ ((more : List (List ℕ)) × (x ≡ y ++ b ∷ more)))

-- two places in one list are one, or one of them comes first
places : (x : List (List ℕ)) (a : List ℕ) (xs y : List (List ℕ)) (b : List ℕ) (ys : List (List ℕ)) → x ++ a ∷ xs ≡ y ++ b ∷ ys → Places x a y b
places [] a xs [] b ys e = inl (refl, same_head e)
places [] a xs (l ∷ y) b ys e = inr (inl (y, same_cons (sym (same_head e)) refl))
places (l ∷ x) a xs [] b ys e = inr (inr (x, same_cons (same_head e) refl))
places (l ∷ x) a xs (m ∷ y) b ys e =
    elim (places x a xs y b ys (same_tail e)) [
      | inl one ↦ inl (same_cons (same_head e) one.0, one.1)
      | inr two ↦ elim two [ inl first ↦ inr (inl (first.0, same_cons (sym (same_head e)) first.1)) | inr last ↦ inr (inr (last.0, same_cons (same_head e) last.1)) ]
    ]

same_bad : {text : List ℕ} {f g : SdpFault} → HasBadLine text f → HasBadLine text g → f ≡ g
same_bad {f = f} {g = g} p q =
    elim (places (announced p.before) p.line p.after (announced q.before) q.line q.after (same_lines p.lines q.lines)) [
      | inl one ↦
          let before : p.before ≡ q.before = same_sections p.before q.before p.good q.good one.0 in
          let wrong : IsFaultAfter q.before q.line f = subst (λ (s : Sections). IsFaultAfter s q.line f) before (subst (λ (l : List ℕ). IsFaultAfter p.before l f) one.1 p.wrong) in
          one_fault q.before q.line f g wrong q.wrong
      | inr two ↦ elim two [ inl first ↦ absurd (good_not_bad q.before q.good p first.0 first.1) | inr last ↦ absurd (good_not_bad p.before p.good q last.0 last.1) ]
    ]

nothing_is_push : (xs : List (List ℕ)) (x : List ℕ) (ys : List (List ℕ)) → [] ≡ xs ++ x ∷ ys → ⊥
nothing_is_push [] x ys e = cc
nothing_is_push (l ∷ xs) x ys e = cc

nothing_is_some : {xs : List (List ℕ)} → [] ≡ xs → 0 < length xs → ⊥
nothing_is_some e h = omega (arith, ap length e, h)

-- the three ways to be refused
abbrev Refusal : List ℕ → SdpFault → Type 0
Refusal text fault = ((fault ≡ NoVersion) × AreLines text []) ⊎ (HasBadLine text fault ⊎ ((fault ≡ NoMedia) × HasNoTrack text))

refusal : (text : List ℕ) (fault : SdpFault) → fault ≢ OutOfMemory → IsRefused text fault → Refusal text fault
refusal text NoVersion h p = elim p [ inl nothing ↦ inl (refl, nothing) | inr bad ↦ inr (inl bad) ]
refusal text BadLine h p = inr (inl p)
refusal text UnknownLetter h p = inr (inl p)
refusal text BadMedia h p = inr (inl p)
refusal text NoMedia h p = inr (inr (refl, p))
refusal text TooManyTracks h p = inr (inl p)
refusal text OutOfMemory h p = absurd (h refl)

same_refusal : (text : List ℕ) (f g : SdpFault) → Refusal text f → Refusal text g → f ≡ g
same_refusal text f g (inl p) (inl q) = p.0 ∙ sym q.0
same_refusal text f g (inl p) (inr (inl q)) = absurd (nothing_is_push (announced q.before) q.line q.after (same_lines p.1 q.lines))
same_refusal text f g (inl p) (inr (inr q)) = absurd (nothing_is_some (same_lines p.1 q.1.lines) q.1.some)
same_refusal text f g (inr (inl p)) (inl q) = absurd (nothing_is_push (announced p.before) p.line p.after (same_lines q.1 p.lines))
same_refusal text f g (inr (inl p)) (inr (inl q)) = same_bad p q
same_refusal text f g (inr (inl p)) (inr (inr q)) = absurd (good_not_bad q.1.sections q.1.good p p.after (same_lines q.1.lines p.lines))
same_refusal text f g (inr (inr p)) (inl q) = absurd (nothing_is_some (same_lines q.1 p.1.lines) p.1.some)
same_refusal text f g (inr (inr p)) (inr (inl q)) = absurd (good_not_bad p.1.sections p.1.good q q.after (same_lines p.1.lines q.lines))
same_refusal text f g (inr (inr p)) (inr (inr q)) = p.0 ∙ sym q.0

-- a text is refused in one way
pub one_refusal : (text : List ℕ) (f g : SdpFault) → f ≢ OutOfMemory → g ≢ OutOfMemory → IsRefused text f → IsRefused text g → f ≡ g
one_refusal text f g h k p q = same_refusal text f g (refusal text f h p) (refusal text g k q)

not_both : {text : List ℕ} {sections : Sections} {fault : SdpFault} → Reads text sections → Refusal text fault → ⊥
not_both {sections = sections} p (inl q) = nothing_is_some (same_lines q.1 p.lines) (announced_some sections.session sections.tracks p.good.track_parts p.some)
not_both {sections = sections} p (inr (inl q)) = good_not_bad sections p.good q q.after (same_lines p.lines q.lines)
not_both {sections = sections} p (inr (inr q)) =
    let same : sections ≡ q.1.sections = same_sections sections q.1.sections p.good q.1.good (same_lines p.lines q.1.lines) in
    omega (arith, p.some, ap (λ (s : Sections). length s.tracks) same, ap length q.1.none)

-- no text both reads and is refused
pub no_refusal : (text : List ℕ) (sections : Sections) (fault : SdpFault) → fault ≢ OutOfMemory → Reads text sections → IsRefused text fault → ⊥
no_refusal text sections fault h p q = not_both p (refusal text fault h q)

-- whatever the written text reads as, it is the same tracks
pub written_same : (old new : Sections) → AreGood old → 0 < length old.tracks → Reads (description_text old) new → AreSameTracks 0 old.tracks new.tracks
written_same old new p some q =
    let again = written_again old p some in
    subst (λ (s : Sections). AreSameTracks 0 old.tracks s.tracks) (one_reading again.1 q) again.2

-- and it isn't refused
pub written_taken : (old : Sections) (fault : SdpFault) → AreGood old → 0 < length old.tracks → fault ≢ OutOfMemory → IsRefused (description_text old) fault → ⊥
written_taken old fault p some h q = let again = written_again old p some in no_refusal (description_text old) again.0 fault h again.1 q
