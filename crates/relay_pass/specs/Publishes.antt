-- The frames of a stream that are published in one turn.
use Rattle.std.specs.Prelude.{◌≡◌, ℕ, List, ◌++◌, Option, map}
use Rattle.interleaved.specs.declared.frame.Frame.{Frame}
use Rattle.rtsp_message.specs.declared.unit.Unit.{Unit as StreamUnit}
use Rattle.rtsp_message.specs.Intakes.{IntakeState, HandsOut}
use Rattle.transport_header.specs.declared.spec.ChannelPair.{ChannelPair}
use Rattle.publisher.specs.Fates.{AreCounted, Handling}
use Rattle.publisher.specs.FramesIn.{HaveFates, MeetInTurn}
use Rattle.packet_ring.specs.Calls.{NeverPinned, PublishesNext}
use Rattle.packet_ring.specs.Views.{Publishing, Subscribing, packet_bytes_of}
use Rattle.relay_pass.specs.declared.report.FrameCounts.{FrameCounts}
use Rattle.relay_pass.specs.Came.{frames_among}
use Rattle.relay_pass.specs.Counts.{counts_of}
use Rattle.relay_pass.specs.Ring.{LearnsLog}

-- the frames of these handlings, in order
abbrev pub frames_of : List Handling → List Frame
frames_of handlings = map (λ (h : Handling). h.frame) handlings

-- these frames met their fates at the ring, in turn, by the ring's own step; none was refused as pinned
pub record MeetFates (from : List (Option ChannelPair)) (handlings : List Handling) (publisher publisher' : Publishing) : Type 0 where
  pub fates : HaveFates from (packet_bytes_of publisher.ring) NeverPinned handlings
  pub meets : MeetInTurn PublishesNext from handlings publisher publisher'

-- The frames among what the intake handed out met their fates at the ring and were counted by them, and the ring's one
-- seat learned of the log.
pub record Publishes {S : Type 0} (of_source : S → Option (List ℕ)) (from : List (Option ChannelPair)) (old new : IntakeState S)
    (publisher publisher' : Publishing) (seat seat' : Subscribing) (came came' : FrameCounts) : Type 0 where
  pub units : List StreamUnit
  pub hands_out : HandsOut of_source old new units
  pub handlings : List Handling
  pub frames : frames_among units ≡ frames_of handlings
  pub met : MeetFates from handlings publisher publisher'
  pub learns : LearnsLog publisher.log publisher'.log seat seat'
  pub counts : (before : List Handling) → AreCounted before (counts_of came) → AreCounted (before ++ handlings) (counts_of came')
