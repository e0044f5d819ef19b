-- Lines that say something have the form of what they say.
use Rattle.std.proofs.Common.{◌≡◌, ℕ, List, [], ◌∷◌, Option, Some, map, refl, ap, ◌∙◌}
use Rattle.ring_script.specs.declared.line.Line.{Line}
use Rattle.ring_script.specs.LineForms.{line_of}
use Rattle.ring_script.specs.Plans.{HaveForms}
use Rattle.ring_script.proofs.Grammar.{line_tells, line_is_read}

pub heard_forms : (lines : List (List ℕ)) (said : List Line) → map line_of lines ≡ map Some said → HaveForms lines said
heard_forms [] [] e = tt
heard_forms [] (s ∷ said) e = absurd (cc)
heard_forms (line ∷ lines) [] e = absurd (cc)
heard_forms (line ∷ lines) (s ∷ said) e =
    let head : line_of line ≡ Some s = cc in
    let tail : map line_of lines ≡ map Some said = cc in
    (line_tells line s head, heard_forms lines said tail)

pub forms_heard : (lines : List (List ℕ)) (said : List Line) → HaveForms lines said → map line_of lines ≡ map Some said
forms_heard [] [] p = refl
forms_heard [] (s ∷ said) p = absurd p
forms_heard (line ∷ lines) [] p = absurd p
forms_heard (line ∷ lines) (s ∷ said) p =
    ap (λ (o : Option Line). o ∷ map line_of lines) (line_is_read line s p.0) ∙ ap (λ (os : List (Option Line)). Some s ∷ os) (forms_heard lines said p.1)
