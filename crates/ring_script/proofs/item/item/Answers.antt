use Rattle.std.proofs.Common.{Some, None, refl}
use Rattle.ring_script.proofs.Items.{item_is}
use Rattle.ring_script.specs.LineForms.{times_of}
use Rattle.std.specs.Option.{option_copied}
use Rattle.ring_script.proofs.item.item.Goals as goal

pub returns-in_err-actor-clause-bad : goal.returns-in_err-actor-clause-bad
returns-in_err-actor-clause-bad c =
    rw c.from_residual.ensures
    (item_is c.args.word.now c.cut.result.0.now (option_copied c.cut.result.1) None (times_of (option_copied c.cut.result.1)) c.cut.ensures.before c.cut.ensures.behind c.in_err-actor.ensures refl)

pub returns-in_err-times-clause-bad : goal.returns-in_err-times-clause-bad
returns-in_err-times-clause-bad c =
    rw c.from_residual-in_err-times.ensures
    (item_is c.args.word.now c.cut.result.0.now (option_copied c.cut.result.1) (Some c.in_ok-actor.actor) None c.cut.ensures.before c.cut.ensures.behind c.in_ok-actor.ensures c.in_err-times.ensures.value)

pub returns-clause-read : goal.returns-clause-read
returns-clause-read c =
    item_is c.args.word.now c.cut.result.0.now (option_copied c.cut.result.1) (Some c.in_ok-actor.actor) (Some c.in_ok-times.times) c.cut.ensures.before c.cut.ensures.behind c.in_ok-actor.ensures c.in_ok-times.ensures.value
