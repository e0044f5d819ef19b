use Rattle.std.proofs.Common.{Some, [], ap, ◌∙◌}
use Rattle.rtsp_message.specs.declared.status.Status.TheVariants.{Ok}
use Rattle.transport_header.specs.Chosen.{transport_text}
use Rattle.session_state.specs.declared.world.change.Change.TheVariants as changes
use Rattle.session_state.specs.Replies.{no_fields}
use Rattle.session_state.proofs.replies.setup.set_up_more.Goals as goal

pub returns : goal.returns
returns c = (
  record {
    chosen = c.chosen_among-chosen.result;
    is_for = c.chosen_among-chosen.ensures;
    is = c.in_ok-reply.ensures
        ∙ ap (λ identifier. record { status = Ok; cseq = c.args.request.now.cseq; fields = record no_fields { session = Some identifier; transport = Some (transport_text (record c.chosen_among-chosen.result { recording = c.args.recording })) }; body = [] }) c.in_ok-identifier.ensures;
  },
  ap (λ pair. changes.SetUp c.args.track pair) c.pair_of-pair.ensures,
)
