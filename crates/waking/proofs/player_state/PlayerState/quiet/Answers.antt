use Rattle.std.proofs.Common.{◌≡◌, ◌∙◌, ap, subst, sym, Some}
use Rattle.waking.specs.Machine.{finds_nothing, knows}
use Rattle.waking.specs.Steps.{MayMake}
use Rattle.waking.proofs.player_state.PlayerState.quiet.Goals as goal

pub returns-in-Some-clause-quiet : goal.returns-in-Some-clause-quiet
returns-in-Some-clause-quiet c seen =
    let same : c.asleep_after.result ≡ Some c.after.result = c.in-Some.is ∙ ap Some (sym c.after.ensures) in
    ((λ is. (c.asleep_after.ensures.quiet seen).0 (same ∙ is)), (λ h. sym same ∙ (c.asleep_after.ensures.quiet seen).1 h))

pub returns-in-Some-clause-may : goal.returns-in-Some-clause-may
returns-in-Some-clause-may c = subst (λ seen. MayMake knows finds_nothing seen c.args.self.now) (sym c.after.ensures) c.in-Some.ensures.may
