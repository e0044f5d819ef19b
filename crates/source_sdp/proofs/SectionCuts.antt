-- The media sections are the lines from the first `m=` line on.
use Rattle.std.proofs.Common.{◌≡◌, ℕ, Bool, true, false, if◌then◌else◌, List, [], ◌∷◌, ◌++◌, refl, ap}
use Rattle.std.specs.List.{AllByRecursion, flat_map}
use Rattle.sdp.specs.Fields.{is_media}
use Rattle.sdp.specs.Sections.{HasNoMedia}
use Rattle.source_sdp.specs.Section.{before_media, sections_of, whole_section, IsCut}

pub no_media_before : (lines : List (List ℕ)) → HasNoMedia (before_media lines)
no_media_before [] = tt
no_media_before (line ∷ lines) = go (is_media line) refl (no_media_before lines)
  where
    go : (b : Bool) → is_media line ≡ b → HasNoMedia (before_media lines) → HasNoMedia (before_media (line ∷ lines))
    go true e others = rw e tt
    go false e others = rw e (e, others)

pub sections_whole : (lines : List (List ℕ)) → lines ≡ before_media lines ++ flat_map whole_section (sections_of lines)
sections_whole [] = refl
sections_whole (line ∷ lines) =
    elim (is_media line) as (λ b. line ∷ lines ≡ (if b then [] else line ∷ before_media lines) ++ flat_map whole_section (if b then record { head = line; lines = before_media lines } ∷ sections_of lines else sections_of lines)) [
      | true ↦ ap (λ (ls : List (List ℕ)). line ∷ ls) (sections_whole lines)
      | false ↦ ap (λ (ls : List (List ℕ)). line ∷ ls) (sections_whole lines)
    ]

pub section_parts : (lines : List (List ℕ)) → AllByRecursion IsCut (sections_of lines)
section_parts [] = tt
section_parts (line ∷ lines) = go (is_media line) refl (section_parts lines)
  where
    go : (b : Bool) → is_media line ≡ b → AllByRecursion IsCut (sections_of lines) → AllByRecursion IsCut (sections_of (line ∷ lines))
    go true e others = rw e ((e, no_media_before lines), others)
    go false e others = rw e others
