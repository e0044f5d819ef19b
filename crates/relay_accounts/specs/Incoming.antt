-- What comes in between the requests of a connection.
use Rattle.std.specs.Prelude.{◌≡◌, ℕ, ◌+◌, ◌^◌, ◌<◌, Bool, List, Option, Some, Result, ◌++◌, length, map}
use Rattle.interleaved.specs.declared.frame.Frame.{Frame}
use Rattle.rtsp_message.specs.declared.unit.Unit.{Unit as StreamUnit}
use Rattle.rtsp_message.specs.declared.unit.Unit.TheVariants as content
use Rattle.rtsp_message.specs.Intakes.{IntakeState, HandsOut, Tells, handed}
use Rattle.transport_header.specs.declared.spec.ChannelPair.{ChannelPair}
use Rattle.transport_header.specs.declared.point.Point.{Point}
use Rattle.cursor.specs.declared.packets.Packet.{Packet}
use Rattle.cursor.specs.declared.refusals.Refused.{Refused as Refusal}
use Rattle.publisher.specs.declared.report.InReport.{InReport}
use Rattle.publisher.specs.declared.report.InStop.{InStop}
use Rattle.publisher.specs.FramesIn.{RelaysIn, answer_of}
use Rattle.relay_accounts.specs.declared.counts.Counts.{Counts}
use Rattle.relay_accounts.specs.Counting.{came_in, with_report, with_strangers}

-- frames as units of a stream
abbrev pub units_of : List Frame → List StreamUnit
units_of frames = map (λ frame. content.Frame frame) frames

-- From the one state to the other an intake handed out these frames and then gave the answer that ended them. Each frame was
-- dropped, and counted as a stranger.
pub record DropsFrames {S : Type 0} (incoming : S → Option (List ℕ)) (failed : S → Bool) (old new : IntakeState S) (before after : Counts) (stop : InStop) : Type 0 where
  pub frames : List Frame
  pub hands_out : HandsOut incoming old new (units_of frames ++ handed (answer_of stop))
  pub tells : Tells incoming failed new (answer_of stop)
  pub counted : after ≡ with_strangers before (length frames)

-- The frames that came in were offered to the feed of the mount, on these channels, up to this answer. The log that the feed
-- tells of grows by those that were published. A report has what became of them, and they are counted by it: the sum of the
-- fates grows by the number of frames that came.
pub record PublishesFrames {S F : Type 0} (incoming : S → Option (List ℕ)) (failed : S → Bool) (gives : F → Packet → Result ℕ Refusal → F → Type 0) (told : F → Option (List Packet)) (pairs : List (Option ChannelPair)) (room : ℕ) (may : Refusal → Type 0)
    (old new : IntakeState S) (feed : F) (after : Option F) (before counts : Counts) (stop : InStop) : Type 0 where
  pub left : F
  pub left_is : after ≡ Some left
  pub report : InReport
  pub stop_is : stop ≡ report.stop
  pub counted : counts ≡ with_report before report
  pub old_points : List (Option Point)
  pub new_points : List (Option Point)
  pub relays : RelaysIn incoming failed gives pairs room may old new feed left (told feed) (told left) old_points new_points report
  pub closes : came_in before + length relays.handlings < 2 ^ 64 → came_in counts ≡ came_in before + length relays.handlings
