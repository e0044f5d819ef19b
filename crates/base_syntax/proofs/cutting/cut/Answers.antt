use Rattle.std.proofs.Common.{arith, length, sym, take, ap, ◌∙◌}
use Rattle.std.proofs.lemmas.List.{take_all}
use Rattle.base_syntax.proofs.Cuts.{behind_nothing, behind_place, place_found, place_missing}
use Rattle.base_syntax.proofs.cutting.cut.Goals as goal

pub returns-in-Some-clause-before : goal.returns-in-Some-clause-before
returns-in-Some-clause-before c =
    ap (λ n. take n c.args.text.now) (sym (place_found c.args.separator c.args.text.now c.in-Some.end c.in-Some.ensures.0 c.in-Some.ensures.1))

pub returns-in-Some-clause-behind : goal.returns-in-Some-clause-behind
returns-in-Some-clause-behind c =
    behind_place c.args.separator c.args.text.now c.in-Some.end (sym (place_found c.args.separator c.args.text.now c.in-Some.end c.in-Some.ensures.0 c.in-Some.ensures.1)) c.in-Some.ensures.0.high

pub returns-in-None-clause-before : goal.returns-in-None-clause-before
returns-in-None-clause-before c =
    sym (ap (λ n. take n c.args.text.now) (place_missing c.args.separator c.args.text.now c.in-None.ensures) ∙ take_all (length c.args.text.now) c.args.text.now (omega arith))

pub returns-in-None-clause-behind : goal.returns-in-None-clause-behind
returns-in-None-clause-behind c =
    behind_nothing c.args.separator c.args.text.now (place_missing c.args.separator c.args.text.now c.in-None.ensures)
