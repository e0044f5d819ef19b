use Rattle.session_state.proofs.Expiring.{expired_so, has_expired, is_expiry}
use Rattle.session_state.proofs.world.World.expire.Goals as goal

pub returns-then-not-has_expired-clause-none : goal.returns-then-not-has_expired-clause-none
returns-then-not-has_expired-clause-none c none history act stands expiry =
    c.if-not-has_expired.ensures (has_expired history c.args.self.now c.args.conn c.args.heard c.args.now act stands expiry)

pub returns-clause-ends : goal.returns-clause-ends
returns-clause-ends c history legal stands = (
  is_expiry history c.args.self.now c.args.conn c.args.heard c.args.now c.end_session.result stands c.if-not-has_expired.ensures c.end_session.ensures.act,
  expired_so history c.args.self.now c.end_session.new.self c.args.conn c.args.heard c.args.now c.end_session.result stands c.end_session.ensures.changes,
)
