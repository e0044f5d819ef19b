-- What goes from a publisher's stream into a feed.
use Rattle.std.specs.Prelude.{◌≡◌, ◌≢◌, ℕ, ◌+◌, ◌*◌, ◌/◌, ◌<◌, ◌⊎◌, Bool, List, [], ◌∷◌, ◌++◌, Option, None, Some, Result, Ok, Err, All, length, map, get_or, option_map}
use Rattle.rtsp_message.specs.declared.unit.Unit.{Unit as StreamUnit}
use Rattle.rtsp_message.specs.declared.unit.Unit.TheVariants as content
use Rattle.rtsp_message.specs.declared.intake.Next.{Next}
use Rattle.rtsp_message.specs.declared.intake.Next.TheVariants as next
use Rattle.rtsp_message.specs.Intakes.{IntakeState, HandsOut, Tells, IsOver, Lasts, handed}
use Rattle.transport_header.specs.declared.spec.ChannelPair.{ChannelPair}
use Rattle.transport_header.specs.declared.point.Point.{Point}
use Rattle.interleaved.specs.declared.frame.Frame.{Frame}
use Rattle.transport_header.specs.Tracks.{channel_of, IsTagOn}
use Rattle.cursor.specs.declared.packets.Packet.{Packet}
use Rattle.cursor.specs.declared.refusals.Refused.{Refused as Refusal}
use Rattle.cursor.specs.declared.refusals.Refused.TheVariants as refused
use Rattle.cursor.specs.Log.{packet_of}
use Rattle.publisher.specs.declared.fate.Fate.{Fate}
use Rattle.publisher.specs.declared.fate.Fate.TheVariants as fate
use Rattle.publisher.specs.declared.report.InReport.{InReport}
use Rattle.publisher.specs.declared.report.InStop.{InStop}
use Rattle.publisher.specs.declared.report.InStop.TheVariants as stop
use Rattle.publisher.specs.Rtp.{point_of}
use Rattle.publisher.specs.Fates.{Handling, HasFate, AreCounted, published, total}

-- there is a place for each track that is set up
abbrev pub HasPlaces : List (Option ChannelPair) → (places : ℕ) → Type 0
HasPlaces pairs places = (tag channel : ℕ) → channel_of pairs tag ≡ Some channel → tag / 2 < places

-- if the log is known, it grows by these packets; of an unknown log this says nothing
abbrev pub GrowsBy : (old : Option (List Packet)) → List Packet → (new : Option (List Packet)) → Type 0
GrowsBy old packets new = new ≡ option_map (λ ps. ps ++ packets) old

-- none of these packets is an RTP packet of the track
abbrev pub NoneOf : (track : ℕ) → List Packet → Type 0
NoneOf track packets = All (λ (p : Packet). p.tag ≢ 2 * track) packets

-- the point of a track after these packets: that of its last RTP packet, or the old point if there is none
abbrev pub IsPointAfter : (track : ℕ) → (old : Option Point) → List Packet → (new : Option Point) → Type 0
IsPointAfter track old packets new =
    NoneOf track packets × (new ≡ old)
    ⊎ (before : List Packet) × (last : Packet) × (after : List Packet)
    × (packets ≡ before ++ last ∷ after) × (last.tag ≡ 2 * track) × NoneOf track after × (new ≡ Some (point_of last.bytes))

-- each track has its point after these packets
abbrev pub ArePointsAfter : (old : List (Option Point)) → List Packet → (new : List (Option Point)) → Type 0
ArePointsAfter old packets new = (track : ℕ) → track < length old → IsPointAfter track (get_or old track None) packets (get_or new track None)

-- the answer of an intake that ended the frames
abbrev pub answer_of : InStop → Next
answer_of (stop.Message request) = next.Unit (content.Message request)
answer_of stop.End = next.End
answer_of (stop.Fault fault) = next.Fault fault
answer_of stop.ReadFailed = next.ReadFailed
answer_of stop.OutOfMemory = next.OutOfMemory

-- how many units were handed out: the frames that are counted, and the message that ended them
abbrev pub handed_out : InReport → ℕ
handed_out report = total report + length (handed (answer_of report.stop))

-- the report if the intake was over before: no frame came, and the frames ended with the answer that is final
abbrev pub StaysOver : {S : Type 0} → (S → Bool) → (old : IntakeState S) → InReport → Type 0
StaysOver failed old report = (answer : Next) → IsOver failed old answer → (total report ≡ 0) × (answer_of report.stop ≡ answer)

-- the frames of these
abbrev pub frames_of : List Handling → List StreamUnit
frames_of handlings = map (λ (h : Handling). content.Frame h.frame) handlings

-- each frame has the fate that it may have
abbrev pub HaveFates : List (Option ChannelPair) → (room : ℕ) → (may : Refusal → Type 0) → List Handling → Type 0
HaveFates pairs room may handlings = All (λ (h : Handling). HasFate pairs room may h.frame h.fate) handlings

module _ {F : Type 0} (gives : F → Packet → Result ℕ Refusal → F → Type 0) (pairs : List (Option ChannelPair)) where
  -- the feed was offered this frame as a packet of its channel's tag, and refused it with this refusal
  abbrev pub Refuses : Frame → Refusal → (old new : F) → Type 0
  Refuses frame refusal old new = (tag : ℕ) × IsTagOn pairs frame.channel (Some tag) × gives old (packet_of tag frame.payload) (Err refusal) new

  -- the feed was offered this frame and gave the answer that makes its fate; or the frame wasn't offered, and the feed is
  -- unchanged
  abbrev pub Meets : Frame → Fate → (old new : F) → Type 0
  Meets frame (fate.Published tag) old new = (number : ℕ) × gives old (packet_of tag frame.payload) (Ok number) new
  Meets frame fate.Pinned old new = (pins : ℕ) × Refuses frame (refused.Pinned pins) old new
  Meets frame fate.Oversize old new = Refuses frame refused.TooLong old new
  Meets frame fate.Worn old new = Refuses frame refused.Worn old new
  Meets frame fate.Unkept old new = Refuses frame refused.OutOfMemory old new
  Meets frame fate.BadRtp old new = new ≡ old
  Meets frame fate.Stranger old new = new ≡ old

  -- these frames met their fates, one after another: each was offered to the feed as the previous one left it
  abbrev pub MeetInTurn : List Handling → (old new : F) → Type 0
  MeetInTurn [] old new = new ≡ old
  MeetInTurn (h ∷ hs) old new = (mid : F) × Meets h.frame h.fate old mid × MeetInTurn hs mid new

module _ {O : Type 0} (observes : O → Fate → ℕ → O → Type 0) where
  -- an observer saw each of these frames once, in order, with its fate and how many bytes of data it has
  abbrev pub SeesInTurn : List Handling → (old new : O) → Type 0
  SeesInTurn [] old new = new ≡ old
  SeesInTurn (h ∷ hs) old new = (mid : O) × observes old h.fate (length h.frame.payload) mid × SeesInTurn hs mid new

-- What was done with the frames of a stream, up to the first unit that is no frame, the end or a fault. The intake handed
-- them out in order and then gave its last answer, which lasts if it is an end. Each met its fate at the feed, in turn,
-- and was counted by it. What was published is in the log, in order. The points are those of the last RTP packets
-- published.
pub record RelaysIn {S F : Type 0} (incoming : S → Option (List ℕ)) (failed : S → Bool) (gives : F → Packet → Result ℕ Refusal → F → Type 0) (pairs : List (Option ChannelPair)) (room : ℕ) (may : Refusal → Type 0)
    (old new : IntakeState S) (old_feed new_feed : F) (old_log new_log : Option (List Packet)) (old_points new_points : List (Option Point)) (report : InReport) : Type 0 where
  pub handlings : List Handling
  pub hands_out : HandsOut incoming old new (frames_of handlings ++ handed (answer_of report.stop))
  pub tells : Tells incoming failed new (answer_of report.stop)
  pub lasts : Lasts failed new (answer_of report.stop)
  pub fates : HaveFates pairs room may handlings
  pub feed : MeetInTurn gives pairs handlings old_feed new_feed
  pub counts : AreCounted handlings report
  pub log : GrowsBy old_log (published handlings) new_log
  pub points : ArePointsAfter old_points (published handlings) new_points

-- The same, with an observer that saw each frame as it met its fate.
pub record RelaysSeen {S F O : Type 0} (incoming : S → Option (List ℕ)) (failed : S → Bool) (gives : F → Packet → Result ℕ Refusal → F → Type 0) (observes : O → Fate → ℕ → O → Type 0) (pairs : List (Option ChannelPair)) (room : ℕ) (may : Refusal → Type 0)
    (old new : IntakeState S) (old_feed new_feed : F) (old_log new_log : Option (List Packet)) (old_points new_points : List (Option Point)) (old_observer new_observer : O) (report : InReport) : Type 0 where
  pub relays : RelaysIn incoming failed gives pairs room may old new old_feed new_feed old_log new_log old_points new_points report
  pub seen : SeesInTurn observes relays.handlings old_observer new_observer
