use Rattle.std.proofs.Common.{arith, sym, ◌∙◌}
use Rattle.std.proofs.lemmas.List.Sums.{prefix_len_is}
use Rattle.base_syntax.specs.Blanks.{is_blank}
use Rattle.base_syntax.proofs.blanks.leading_blanks.Goals as goal

pub returns-then-not-is_blank-clause-count : goal.returns-then-not-is_blank-clause-count
returns-then-not-is_blank-clause-count c =
    sym (prefix_len_is is_blank c.args.text.now c.loop-i.i 0 (omega arith) c.loop-i.invariant (λ _. sym c.is_blank.ensures ∙ c.if-not-is_blank.true))

pub returns-clause-count : goal.returns-clause-count
returns-clause-count c =
    sym (prefix_len_is is_blank c.args.text.now _ 0 (omega arith) (λ k below. c.loop-i.invariant k (omega arith)) (λ less. absurd (omega arith)))
