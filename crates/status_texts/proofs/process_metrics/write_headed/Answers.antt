use Rattle.std.proofs.lemmas.Result.{on_err_weaker}
use Rattle.status_texts.specs.Families.{head_text}
use Rattle.status_texts.proofs.Appending.{then_same}
use Rattle.status_texts.proofs.process_metrics.write_headed.Goals as goal

pub returns-clause-kept : goal.returns-clause-kept
returns-clause-kept c =
    on_err_weaker c.put_value.result (λ same. then_same c.args.out.now.items c.put.new.out.items c.put_value.new.out.items (head_text c.args.head.now) c.in_ok-put.ensures.ok same) c.put_value.ensures.kept
