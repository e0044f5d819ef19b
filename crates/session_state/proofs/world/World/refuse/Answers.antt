use Rattle.std.proofs.Common.{ap, ◌∙◌}
use Rattle.rtsp_message.specs.declared.reply.Reply.{Reply}
use Rattle.rtsp_message.specs.declared.status.Status.{Status}
use Rattle.rtsp_message.specs.declared.reply.Fields.{Fields}
use Rattle.session_state.specs.Judged.{asked_of}
use Rattle.session_state.specs.Replies.{refusal}
use Rattle.session_state.proofs.world.World.refuse.Goals as goal

pub returns : goal.returns
returns c history =
    let is : Reply = refusal (asked_of c.args.self.now history c.args.conn c.args.request.now) c.args.check in
    ap (λ (status : Status). record { status = status; cseq = c.args.request.now.cseq; fields = c.in_ok-refusal_fields.field-0; body = c.empty.result }) c.status.ensures
    ∙ ap (λ (fields : Fields). record { status = is.status; cseq = c.args.request.now.cseq; fields = fields; body = c.empty.result }) (c.in_ok-refusal_fields.ensures history)
    ∙ ap (λ body. record { status = is.status; cseq = c.args.request.now.cseq; fields = is.fields; body = body }) c.empty.ensures
