use Rattle.std.proofs.Common.{arith, sym, ◌∙◌}
use Rattle.std.proofs.lemmas.Bool.{false≢true}
use Rattle.transport_header.proofs.First.{is_first, none_more}
use Rattle.transport_header.proofs.chosen.first_acceptable.Goals as goal

pub returns-then-is_acceptable : goal.returns-then-is_acceptable
returns-then-is_acceptable c = is_first _ _ _ c.loop-spec-test.true c.loop-spec.invariant (c.is_acceptable.ensures.0 c.if-is_acceptable.true)

pub loop-spec-preserved : goal.loop-spec-preserved
loop-spec-preserved c = none_more _ _ _ c.loop-spec-test.true c.loop-spec.invariant (λ acceptable. false≢true (sym c.if-is_acceptable.false ∙ c.is_acceptable.ensures.1 acceptable))

pub returns : goal.returns
returns c = λ k d h. c.loop-spec.invariant k d (omega arith)
