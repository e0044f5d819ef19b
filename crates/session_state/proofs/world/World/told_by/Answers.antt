use Rattle.std.proofs.Common.{None, if◌then◌else◌, ap, sym, ◌∙◌}
use Rattle.session_state.specs.Judged.{asked_of}
use Rattle.session_state.specs.Replies.{told_session, told_to}
use Rattle.session_state.proofs.world.World.told_by.Goals as goal

pub returns-then-tells_session : goal.returns-then-tells_session
returns-then-tells_session c history =
    c.in_ok-told_session.ensures ∙ ap (told_to c.args.request.now) c.session_of.ensures
    ∙ ap (λ b. if b then told_session (asked_of c.args.self.now history c.args.conn c.args.request.now) else None) (sym c.if-tells_session.true ∙ c.tells_session.ensures)
