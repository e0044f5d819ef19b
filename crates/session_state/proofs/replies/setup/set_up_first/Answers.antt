use Rattle.std.proofs.Common.{None, Some, [], replicate, slice_set, ap, sym, subst, ◌∙◌}
use Rattle.rtsp_message.specs.declared.status.Status.TheVariants.{Ok}
use Rattle.transport_header.specs.Chosen.{transport_text}
use Rattle.transport_header.specs.Tracks.{MayHave}
use Rattle.session_state.specs.declared.world.change.Change.TheVariants as changes
use Rattle.session_state.specs.declared.session.State.TheVariants.{Ready}
use Rattle.session_state.specs.Judged.{IsChosenFor}
use Rattle.session_state.specs.Replies.{no_fields}
use Rattle.session_state.proofs.replies.setup.set_up_first.Goals as goal

pub set-requires-clause-free : goal.set-requires-clause-free
set-requires-clause-free c = subst (MayHave c.new-channels.result c.args.track) (sym c.pair_of.ensures) c.chosen_among-chosen.ensures.may_have

pub returns : goal.returns
returns c = (
  record {
    chosen = c.chosen_among-chosen.result;
    is_for = subst (λ channels. IsChosenFor c.args.specs.now channels c.args.track c.chosen_among-chosen.result) c.new-channels.ensures c.chosen_among-chosen.ensures;
    is = c.in_ok-reply.ensures
        ∙ ap (λ identifier. record { status = Ok; cseq = c.args.request.now.cseq; fields = record no_fields { session = Some identifier; transport = Some (transport_text (record c.chosen_among-chosen.result { recording = c.args.recording })) }; body = [] }) c.in_ok-identifier.ensures;
  },
  ap (λ name. changes.Begin (record { number = c.args.number; word = c.args.word; mount = c.args.mount.now.number; name = name; recording = c.args.recording; channels = c.set.new.self; state = Ready })) (c.in_ok-from_slice.ensures ∙ c.as_slice.ensures)
      ∙ ap (λ channels. changes.Begin (record { number = c.args.number; word = c.args.word; mount = c.args.mount.now.number; name = c.args.mount.now.name; recording = c.args.recording; channels = channels; state = Ready }))
      (c.set.ensures ∙ ap (λ channels. slice_set channels c.args.track (Some c.pair_of.result)) c.new-channels.ensures
      ∙ ap (λ pair. slice_set (replicate 16 None) c.args.track (Some pair)) c.pair_of.ensures),
)
