use Rattle.std.proofs.Common.{arith, subst, sym, slice_get}
use Rattle.std.proofs.lemmas.Grind.{common_steps}
use Rattle.relay_log.specs.Orders.{ComesBefore}
use Rattle.relay_log.proofs.Turning.{told_last}
use Rattle.relay_log.proofs.reports.told.turn.Goals as goal

pub returns-clause-list : goal.returns-clause-list
returns-clause-list g c = grind (arith, common_steps)

pub returns-clause-untold_before_told : goal.returns-clause-untold_before_told
returns-clause-untold_before_told g c untold told from within before =
    subst (λ list. ComesBefore list (slice_get c.args.list.now untold) (slice_get c.args.list.now told)) (sym (returns-clause-list g c)) (told_last c.args.end c.args.list.now untold told from within before)
