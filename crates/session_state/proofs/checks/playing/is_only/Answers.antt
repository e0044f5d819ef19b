use Rattle.std.proofs.Common.{arith}
use Rattle.session_state.proofs.CheckedSession.{pair_within}
use Rattle.session_state.proofs.checks.playing.is_only.Goals as goal

pub returns : goal.returns
returns c = λ other set_up.
    let low = pair_within c.args.channels.now other set_up in
    let past = c.loop-other-test.false in
    let sixteen = c.loop-other.invariant.sixteen (omega (arith, past)) in
    c.loop-other.invariant.alone other (omega (arith, low, past, sixteen)) set_up
