use Rattle.std.proofs.Common.{◌≡◌, ◌∙◌, ◌++◌, ◌∷◌, [], Some, List, ℕ, ap, rules, sym, append_assoc}
use Rattle.std.specs.Option.{option_copied}
use Rattle.source_sdp.specs.Lines.{lines_in, kept_lines}
use Rattle.source_sdp.proofs.Parts.{first_line, lines_left}
use Rattle.source_sdp.proofs.lines.read_lines.Goals as goal

pub loop-rest-preserved : goal.loop-rest-preserved
loop-rest-preserved c =
    let left : option_copied c.loop-rest.rest ≡ Some c.in-Some.text.now = search rules in
    let whole : c.loop-rest.lines ++ lines_in c.in-Some.text.now ≡ lines_in c.args.text.now = rw left at c.loop-rest.invariant in
    let rest = option_copied c.cut.result.1 in
    ap (λ (ls : List (List ℕ)). ls ++ lines_left rest) c.in_ok-add_line.ensures
    ∙ append_assoc c.loop-rest.lines (kept_lines (c.cut.result.0.now ∷ [])) (lines_left rest)
    ∙ ap (λ (ls : List (List ℕ)). c.loop-rest.lines ++ ls) (sym (first_line c.in-Some.text.now c.cut.result.0.now rest c.cut.ensures.before c.cut.ensures.behind))
    ∙ whole
