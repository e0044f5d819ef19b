use Rattle.std.proofs.Common.{◌≡◌, ◌∙◌, None, Some, ap, rules, sym}
use Rattle.std.specs.Option.{option_copied, option_or}
use Rattle.process_figures.specs.Lines.{behind_name, behind_named, first_behind}
use Rattle.process_figures.proofs.Parts.{first_line, parts_left}
use Rattle.process_figures.proofs.lines.behind_named.Goals as goal

pub returns-in-Some-behind_name : goal.returns-in-Some-behind_name
returns-in-Some-behind_name c =
    let left : option_copied c.loop-rest.rest ≡ Some c.in-Some.text.now = search rules in
    let here : behind_name c.args.name.now c.cut.result.0.now ≡ Some c.in-Some-behind_name.behind.now = search rules in
    let rest : first_behind c.args.name.now (parts_left 10 (Some c.in-Some.text.now)) ≡ behind_named c.args.name.now c.args.text.now = rw left at c.loop-rest.invariant in
    sym (ap (λ found. option_or found (first_behind c.args.name.now (parts_left 10 (option_copied c.cut.result.1)))) here)
    ∙ sym (first_line c.args.name.now c.in-Some.text.now c.cut.result.0.now (option_copied c.cut.result.1) c.cut.ensures.before c.cut.ensures.behind)
    ∙ rest

pub loop-rest-preserved : goal.loop-rest-preserved
loop-rest-preserved c =
    let left : option_copied c.loop-rest.rest ≡ Some c.in-Some.text.now = search rules in
    let none : behind_name c.args.name.now c.cut.result.0.now ≡ None = search rules in
    let rest : first_behind c.args.name.now (parts_left 10 (Some c.in-Some.text.now)) ≡ behind_named c.args.name.now c.args.text.now = rw left at c.loop-rest.invariant in
    sym (ap (λ found. option_or found (first_behind c.args.name.now (parts_left 10 (option_copied c.cut.result.1)))) none)
    ∙ sym (first_line c.args.name.now c.in-Some.text.now c.cut.result.0.now (option_copied c.cut.result.1) c.cut.ensures.before c.cut.ensures.behind)
    ∙ rest
