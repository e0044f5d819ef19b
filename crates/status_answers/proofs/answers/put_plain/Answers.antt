use Rattle.std.proofs.lemmas.Result.{on_ok_weaker}
use Rattle.status_answers.proofs.answers.put_plain.Goals as goal

pub returns-clause-fields : goal.returns-clause-fields
returns-clause-fields c = on_ok_weaker _ (λ pushed. c.in_ok-put_typed.ensures.fields) c.push.ensures
