use Rattle.std.proofs.Common.{◌≡◌, ◌++◌, length, subst, take}
use Rattle.std.proofs.lemmas.Result.{on_ok_weaker, on_err_weaker}
use Rattle.std.specs.List.{flat_map}
use Rattle.status_texts.specs.Families.{head_text}
use Rattle.status_texts.specs.Tracks.{track_samples}
use Rattle.status_texts.proofs.Appending.{then_text, then_kept}
use Rattle.status_texts.proofs.track_metrics.write_headed.Goals as goal

pub returns-clause-text : goal.returns-clause-text
returns-clause-text c =
    on_ok_weaker _ (λ behind. then_text _ _ _ _ _ c.in_ok-put.ensures.ok
    (subst (λ name. c.write_all_samples.new.out.items ≡ c.put.new.out.items ++ flat_map (track_samples name c.args.family) c.args.figures.now) c.name.ensures behind))
    c.write_all_samples.ensures.text

pub returns-clause-kept : goal.returns-clause-kept
returns-clause-kept c =
    let step : take (length c.put.new.out.items) c.write_all_samples.new.out.items ≡ c.put.new.out.items → take (length c.args.out.now.items) c.write_all_samples.new.out.items ≡ c.args.out.now.items =
    λ kept. then_kept c.args.out.now.items c.put.new.out.items c.write_all_samples.new.out.items (head_text c.args.head.now) c.in_ok-put.ensures.ok kept in
    on_err_weaker c.write_all_samples.result step c.write_all_samples.ensures.kept
