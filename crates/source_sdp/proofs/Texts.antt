-- Lists and bytes, for texts that are announced.
use Rattle.std.proofs.Common.{◌≡◌, ℕ, ◌≤◌, ◌-◌, ◌+◌, Bool, true, List, [], ◌∷◌, ◌++◌, length, get_or, refl, sym, ap, ◌∙◌, inl, inr, arith, append_assoc, length-append}
use Rattle.std.specs.List.{AllByRecursion, flat_map, list_all}
use Rattle.std.proofs.lemmas.Bool.{and_parts}
use Rattle.std.proofs.lemmas.Bool.Decides.{leb_tells}
use Rattle.std.proofs.lemmas.List.{get_or-append_right}
use Rattle.std.proofs.lemmas.List.Concat.{flat_map-append}
use Rattle.base_syntax.specs.Blanks.{is_blank}
use Rattle.sdp.specs.Fields.{is_field, is_letter, is_value_byte}
use Rattle.sdp.specs.MediaForm.{HasBareEnd}
use Rattle.sdp.specs.Sections.{lines_of}
use Rattle.sdp.specs.Written.{written}
use Rattle.sdp.proofs.Texts.{written-push}
use Rattle.source_sdp.specs.declared.track.SourceTrack.{SourceTrack}
use Rattle.source_sdp.specs.Announced.{track_lines, tracks_from}

-- each element passes, one by one
pub each_passes : {X : Type 0} (p : X → Bool) (xs : List X) → list_all p xs ≡ true → AllByRecursion (λ x. p x ≡ true) xs
each_passes p [] h = tt
each_passes p (x ∷ xs) h = let parts = and_parts (p x) (list_all p xs) h in (parts.0, each_passes p xs parts.1)

pub both_pass : {X : Type 0} (p : X → Bool) (xs ys : List X) → list_all p xs ≡ true → list_all p ys ≡ true → list_all p (xs ++ ys) ≡ true
both_pass p [] ys h k = k
both_pass p (x ∷ xs) ys h k = let parts = and_parts (p x) (list_all p xs) h in rw (parts.0) (both_pass p xs ys parts.1 k)

-- a text that ends in one without a blank at its end
pub bare_join : (xs ys : List ℕ) → HasBareEnd ys → HasBareEnd (xs ++ ys)
bare_join xs ys ends =
    let long : length (xs ++ ys) ≡ length xs + length ys = length-append xs ys in
    let from : length xs ≤ length (xs ++ ys) - 1 = omega (arith, long, ends.0) in
    let place : length (xs ++ ys) - 1 - length xs ≡ length ys - 1 = omega (arith, long, ends.0) in
    (omega (arith, long, ends.0), ap is_blank (get_or-append_right xs ys (length xs) (length (xs ++ ys) - 1) 0 refl from ∙ ap (λ i. get_or ys i 0) place) ∙ ends.1)

-- a track's text, piece by piece
pub track_text : (before head : List ℕ) (lines : List (List ℕ)) (control : List ℕ) → ((before ++ written head) ++ flat_map written lines) ++ written control ≡ before ++ flat_map written (head ∷ (lines ++ control ∷ []))
track_text before head lines control =
    append_assoc (before ++ written head) (flat_map written lines) (written control)
    ∙ append_assoc before (written head) (flat_map written lines ++ written control)
    ∙ ap (λ (text : List ℕ). before ++ (written head ++ text)) (sym (written-push lines control))

-- a track's text, and that of those after it
pub track_and_more : (before : List ℕ) (number : ℕ) (track : SourceTrack) (tracks : List SourceTrack) → (before ++ flat_map written (track_lines number track)) ++ flat_map written (flat_map lines_of (tracks_from (number + 1) tracks)) ≡ before ++ flat_map written (flat_map lines_of (tracks_from number (track ∷ tracks)))
track_and_more before number track tracks =
    append_assoc before (flat_map written (track_lines number track)) (flat_map written (flat_map lines_of (tracks_from (number + 1) tracks)))
    ∙ ap (λ (text : List ℕ). before ++ text) (sym (flat_map-append written (track_lines number track) (flat_map lines_of (tracks_from (number + 1) tracks))))

-- a letter, an equals sign and a value
pub field_of : (letter : ℕ) (value : List ℕ) → is_letter letter ≡ true → list_all is_value_byte value ≡ true → is_field (letter ∷ 61 ∷ value) ≡ true
field_of letter value listed values = elim (leb_tells 2 (length (letter ∷ 61 ∷ value))) [ inl long ↦ rw (long.0, listed) values | inr short ↦ absurd (omega (arith, short.1)) ]
