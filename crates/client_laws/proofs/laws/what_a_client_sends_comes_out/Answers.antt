use Rattle.std.proofs.Common.{ap, subst, ◌∙◌}
use Rattle.rtsp_message.specs.declared.peer.Peer.TheVariants.{Client}
use Rattle.rtsp_message.proofs.OneReading.{one_reading}
use Rattle.packet_ring.specs.Views.{packet_bytes_of}
use Rattle.request_text.proofs.Messages.{all_read}
use Rattle.request_text.specs.Sending.{sent_text}
use Rattle.relay_pass.specs.Came.{frames_among}
use Rattle.relay_pass.specs.Carried.{AreWritten}
use Rattle.relay_pass.proofs.Carrying.{all-relayed}
use Rattle.std.specs.List.{flat_map}
use Rattle.client_laws.proofs.Frames.{same_frames}
use Rattle.client_laws.proofs.laws.what_a_client_sends_comes_out.Goals as goal

pub returns : goal.returns
returns g c = record {
  relayed = λ from to source new publisher publisher' seat seat' before after report items h cans known is at kept short. (
      let relayed = all-relayed g.S.Source.incoming g.S.Source.failed from to source new publisher publisher' seat seat' before after report (flat_map sent_text items) h known is at kept short in
      let one = one_reading Client relayed.reads (all_read items cans) in
      subst (λ frames. AreWritten from to (packet_bytes_of publisher.ring) frames before after) (ap frames_among one.0 ∙ same_frames items) relayed.written
      );
}
