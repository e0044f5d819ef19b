use Rattle.std.proofs.Common.{◌≡◌, ◌≤◌, ◌<◌, ◌∙◌, None, Some, List, ℕ, ap, arith, rules, sym}
use Rattle.std.specs.Option.{option_copied}
use Rattle.process_figures.proofs.Parts.{later_part, this_part}
use Rattle.process_figures.proofs.stat.between_spaces.Goals as goal

pub returns-in_err-left : goal.returns-in_err-left
returns-in_err-left c =
    let below : c.loop-passed._passed < c.args.place = omega (arith, c.loop-passed-test.true) in
    let none : option_copied c.cut.result.1 ≡ None = search rules in
    let nothing : option_copied c.from_residual.result ≡ None = search rules in
    nothing ∙ sym (sym c.loop-passed.invariant ∙ later_part 32 c.loop-passed.left.now None c.args.place c.loop-passed._passed (sym none ∙ c.cut.ensures.behind) below)

pub loop-passed-preserved : goal.loop-passed-preserved
loop-passed-preserved c =
    let below : c.loop-passed._passed < c.args.place = omega (arith, c.loop-passed-test.true) in
    let some : option_copied c.cut.result.1 ≡ Some c.in_ok-left.left.now = search rules in
    sym (later_part 32 c.loop-passed.left.now (Some c.in_ok-left.left.now) c.args.place c.loop-passed._passed (sym some ∙ c.cut.ensures.behind) below) ∙ c.loop-passed.invariant

pub returns : goal.returns
returns c =
    let over : c.args.place ≤ c.loop-passed._passed = omega (arith, c.loop-passed-test.false) in
    ap (λ (part : List ℕ). Some part) c.cut-2.ensures.before ∙ sym (this_part 32 c.loop-passed.left.now c.args.place c.loop-passed._passed over) ∙ c.loop-passed.invariant
