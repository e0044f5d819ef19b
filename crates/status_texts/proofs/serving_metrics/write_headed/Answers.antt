use Rattle.std.proofs.Common.{◌≡◌, length, take}
use Rattle.std.proofs.lemmas.Result.{on_err_weaker}
use Rattle.status_texts.specs.Families.{head_text}
use Rattle.status_texts.proofs.Appending.{then_kept}
use Rattle.status_texts.proofs.serving_metrics.write_headed.Goals as goal

pub returns-clause-kept : goal.returns-clause-kept
returns-clause-kept c =
    let step : take (length c.put.new.out.items) c.write_samples.new.out.items ≡ c.put.new.out.items → take (length c.args.out.now.items) c.write_samples.new.out.items ≡ c.args.out.now.items =
    λ kept. then_kept c.args.out.now.items c.put.new.out.items c.write_samples.new.out.items (head_text c.args.head.now) c.in_ok-put.ensures.ok kept in
    on_err_weaker c.write_samples.result step c.write_samples.ensures.kept
