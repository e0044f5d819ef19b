use Rattle.std.proofs.Common.{Err, inl, refl, ap, ◌∙◌}
use Rattle.session_state.proofs.world.World.judge.Goals as goal

pub returns-in_ok-reply-in-Err-Fails-clause-judged : goal.returns-in_ok-reply-in-Err-Fails-clause-judged
returns-in_ok-reply-in-Err-Fails-clause-judged c history legal stands =
    inl ((c.in-Err-Fails.check, c.check.ensures.fails c.in-Err-Fails.check (c.in-Err-Fails.is ∙ ap Err c.in-Err-Fails.field-0-is) history legal stands, c.in_ok-reply-in-Err-Fails.ensures history, refl), refl)
