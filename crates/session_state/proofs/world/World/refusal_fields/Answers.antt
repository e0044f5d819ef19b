use Rattle.std.proofs.Common.{refl, ap, sym, ◌∙◌}
use Rattle.rtsp_message.specs.declared.reply.Fields.{Fields}
use Rattle.session_state.specs.Judged.{asked_of}
use Rattle.session_state.specs.Checks.{Asked}
use Rattle.session_state.specs.Replies.{fields_of}
use Rattle.session_state.proofs.world.World.refusal_fields.Goals as goal

pub returns : goal.returns
returns c history =
    let asked : Asked = asked_of c.args.self.now history c.args.conn c.args.request.now in
    let is : Fields = fields_of asked c.args.check in
    ap (λ (none : Fields). record none { session = c.in_ok-told_by.field-0; allow = c.in_ok-allow_of.field-0; unsupported = c.in_ok-unsupported_of.field-0 }) c.none.ensures
    ∙ ap (λ session. record is { session = session; allow = c.in_ok-allow_of.field-0; unsupported = c.in_ok-unsupported_of.field-0 }) (c.in_ok-told_by.ensures history)
    ∙ ap (λ allow. record is { allow = allow; unsupported = c.in_ok-unsupported_of.field-0 }) (c.in_ok-allow_of.ensures asked (sym c.session_of.ensures))
    ∙ ap (λ unsupported. record is { unsupported = unsupported }) (c.in_ok-unsupported_of.ensures asked refl)
