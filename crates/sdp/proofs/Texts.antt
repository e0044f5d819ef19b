-- The text that is written, part by part.
use Rattle.std.proofs.Common.{◌≡◌, ℕ, List, [], ◌∷◌, ◌++◌, codes, decimal, sym, ap, ◌∙◌, append_assoc, append-nil}
use Rattle.std.specs.List.{flat_map}
use Rattle.std.proofs.lemmas.List.Concat.{flat_map-append}
use Rattle.sdp.specs.Fields.{control_prefix}
use Rattle.sdp.specs.declared.sections.Sections.{Sections}
use Rattle.sdp.specs.Written.{written, without_controls, track_control, lines_from, description_text}

-- lines and one more
pub written-push : (lines : List (List ℕ)) (line : List ℕ) → flat_map written (lines ++ line ∷ []) ≡ flat_map written lines ++ written line
written-push lines line = flat_map-append written lines (line ∷ []) ∙ ap (λ (l : List ℕ). flat_map written lines ++ l) (append-nil (written line))

-- a text, lines and a control, piece by piece
pub with_control : (before : List ℕ) (lines : List (List ℕ)) (number : ℕ) → (((before ++ flat_map written lines) ++ codes "a=control:trackID=") ++ decimal number) ++ codes "\r\n" ≡ before ++ flat_map written (lines ++ (control_prefix ++ track_control number) ∷ [])
with_control before lines number = rw (written-push) (simp append_assoc)

-- the parts of a description, one after another
pub whole_text : (sections : Sections) → ([] ++ flat_map written (without_controls sections.session)) ++ written (control_prefix ++ codes "*") ++ flat_map written (lines_from 0 sections.tracks) ≡ description_text sections
whole_text sections =
    let session = without_controls sections.session in
    let more = lines_from 0 sections.tracks in
    sym (flat_map-append written (session ++ (control_prefix ++ codes "*") ∷ []) more ∙ ap (λ (l : List ℕ). l ++ flat_map written more) (written-push session (control_prefix ++ codes "*")))
