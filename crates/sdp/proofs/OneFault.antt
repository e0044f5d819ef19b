-- A line after others has one fault.
use Rattle.std.proofs.Common.{◌≡◌, ℕ, ◌<◌, ◌&&◌, Bool, true, false, List, [], ◌∷◌, Option, None, Some, length, slice_index, refl, sym, ◌∙◌, arith, drop}
use Rattle.std.specs.List.{list_all}
use Rattle.std.proofs.lemmas.Bool.{and_parts}
use Rattle.sdp.specs.declared.fault.SdpFault.{SdpFault}
use Rattle.sdp.specs.declared.fault.SdpFault.TheVariants.{NoVersion, BadLine, UnknownLetter, BadMedia, NoMedia, TooManyTracks, OutOfMemory}
use Rattle.sdp.specs.declared.sections.Sections.{Sections}
use Rattle.sdp.specs.Fields.{is_field, is_letter, is_value_byte, has_equals, names_unknown}
use Rattle.sdp.specs.Media.{MediaLine, media_of}
use Rattle.sdp.specs.MediaForm.{IsMedia}
use Rattle.sdp.specs.Sections.{announced}
use Rattle.sdp.specs.Faults.{IsFaultAfter}
use Rattle.sdp.proofs.MediaForms.{media_tells, media_is_found}

and_false : (a b : Bool) → (a && (b && false)) ≡ false
and_false a b = elim a as (λ v. (v && (b && false)) ≡ false) [ true ↦ elim b as (λ v. (v && false) ≡ false) [ true ↦ refl | false ↦ refl ] | false ↦ refl ]

-- a good line names a listed letter
pub field_known : (line : List ℕ) → is_field line ≡ true → names_unknown line ≡ false
field_known line h =
    let parts = and_parts (is_letter (slice_index line 0)) (list_all is_value_byte (drop 2 line)) (and_parts (has_equals line) _ h).1 in
    rw (parts.0) (and_false (has_equals line) _)

-- the fault that a line with one has, by its letter, its form and what it names
later_fault : Bool → Bool → Option MediaLine → SdpFault
later_fault true field named = UnknownLetter
later_fault false false named = BadLine
later_fault false true None = BadMedia
later_fault false true (Some named) = TooManyTracks

fault_behind : List (List ℕ) → SdpFault → SdpFault
fault_behind [] later = NoVersion
fault_behind (line ∷ lines) later = later

abbrev fault_of : Sections → List ℕ → SdpFault
fault_of before line = fault_behind (announced before) (later_fault (names_unknown line) (is_field line) (media_of line))

behind_some : (lines : List (List ℕ)) (later : SdpFault) → 0 < length lines → fault_behind lines later ≡ later
unfolding fault_behind
behind_some [] later h = absurd (omega arith)
behind_some (line ∷ lines) later h = refl

no_name : (line : List ℕ) (named : Option MediaLine) → media_of line ≡ named → ((m : MediaLine) → ¬ IsMedia (drop 2 line) m) → named ≡ None
no_name line None e none = refl
no_name line (Some m) e none = absurd (none m (media_tells line m e))

is_fault_of : (before : Sections) (line : List ℕ) (fault : SdpFault) → IsFaultAfter before line fault → fault_of before line ≡ fault
unfolding fault_behind later_fault
is_fault_of before line NoVersion p = rw p.first refl
is_fault_of before line UnknownLetter p = behind_some (announced before) _ p.later ∙ rw p.unknown refl
is_fault_of before line BadLine p = behind_some (announced before) _ p.later ∙ rw (p.known, p.malformed) refl
is_fault_of before line BadMedia p =
    let nothing = no_name line (media_of line) refl p.nothing in
    behind_some (announced before) _ p.opens.later ∙ rw (field_known line p.opens.field, p.opens.field, nothing) refl
is_fault_of before line NoMedia p = absurd p
is_fault_of before line TooManyTracks p =
    let names = media_is_found line p.named p.names in
    behind_some (announced before) _ p.opens.later ∙ rw (field_known line p.opens.field, p.opens.field, names) refl
is_fault_of before line OutOfMemory p = absurd p

pub one_fault : (before : Sections) (line : List ℕ) (f g : SdpFault) → IsFaultAfter before line f → IsFaultAfter before line g → f ≡ g
one_fault before line f g p q = sym (is_fault_of before line f p) ∙ is_fault_of before line g q
