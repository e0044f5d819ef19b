use Rattle.std.proofs.Common.{Some, ap, subst, sym}
use Rattle.waking.specs.PlayerStates.{SleepsAt}
use Rattle.waking.proofs.Sleeps.{sleeps_there, sleeps_where}
use Rattle.waking.proofs.player_state.PlayerState.asleep_after.Goals as goal

pub returns-in-false-None-None-clause-quiet : goal.returns-in-false-None-None-clause-quiet
returns-in-false-None-None-clause-quiet c seen =
    let at = c.in-false-None-None in
    ((λ is. subst (SleepsAt c.args.self.now) (cc) (sleeps_there c.args.self.now at.is-0 at.is-1 at.is-2)), (λ h. ap Some (sym (sleeps_where c.args.self.now seen h).3)))

pub returns-in_default-clause-quiet : goal.returns-in_default-clause-quiet
returns-in_default-clause-quiet c seen = ((λ is. absurd (cc)), (λ h. absurd (cc (sleeps_where c.args.self.now seen h).0)))

pub returns-in_default-2-clause-quiet : goal.returns-in_default-2-clause-quiet
returns-in_default-2-clause-quiet c seen = ((λ is. absurd (cc)), (λ h. absurd (cc (sleeps_where c.args.self.now seen h).2)))

pub returns-in_default-3-clause-quiet : goal.returns-in_default-3-clause-quiet
returns-in_default-3-clause-quiet c seen = ((λ is. absurd (cc)), (λ h. absurd (cc (sleeps_where c.args.self.now seen h).1)))
