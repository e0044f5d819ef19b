-- What goes out of a tap to a player (RFC 2326, 10.12).
use Rattle.std.specs.Prelude.{◌≡◌, ℕ, ◌≤◌, ◌<◌, List, [], ◌∷◌, ◌++◌, Option, None, Some, IsSome, length, take, count_by, is_none}
use Rattle.std.specs.List.{concat, flat_map}
use Rattle.std.specs.Io.KnownBytes.{Appends}
use Rattle.interleaved.specs.Frame.{frame_of}
use Rattle.transport_header.specs.declared.spec.ChannelPair.{ChannelPair}
use Rattle.transport_header.specs.Tracks.{channel_of}
use Rattle.cursor.specs.declared.packets.Packet.{Packet}
use Rattle.cursor.specs.declared.takes.Delivery.{Delivery}
use Rattle.cursor.specs.declared.takes.Delivery.TheVariants as delivery
use Rattle.cursor.specs.Account.{received, lost}
use Rattle.cursor.specs.Taps.{Takes, AllGoOn}
use Rattle.player.specs.declared.report.OutStop.{OutStop}
use Rattle.player.specs.declared.report.OutStop.TheVariants as stop
use Rattle.player.specs.declared.report.OutReport.{OutReport}

-- the frame of a packet on a channel, if there is one
abbrev pub frame_on : Option ℕ → (bytes : List ℕ) → List (List ℕ)
frame_on None bytes = []
frame_on (Some channel) bytes = frame_of channel bytes ∷ []

-- the frame of a packet whose track is set up: RTP on the track's first channel, RTCP on its second
abbrev pub frame_out : List (Option ChannelPair) → Packet → List (List ℕ)
frame_out pairs packet = frame_on (channel_of pairs packet.tag) packet.bytes

-- Out text, frame by frame: the frames of the packets that these answers gave, in order, and nothing for those of
-- tracks that aren't set up
abbrev pub frames_out : List (Option ChannelPair) → List Delivery → List (List ℕ)
frames_out pairs answers = flat_map (frame_out pairs) (received answers)

-- how many of the packets are of tracks that aren't set up
abbrev pub skipped_of : List (Option ChannelPair) → List Delivery → ℕ
skipped_of pairs answers = count_by (λ (packet : Packet). is_none (channel_of pairs packet.tag)) (received answers)

-- with which answers a run of at most n takes ends: after n of them, at the first Empty or Ended, or at the packet
-- whose frame couldn't be written
abbrev pub EndsAs : List (Option ChannelPair) → (n : ℕ) → List Delivery → OutStop → Type 0
EndsAs pairs n answers stop.Done = (length answers ≡ n) × AllGoOn answers
EndsAs pairs n answers stop.Empty = (length answers ≤ n) × (front : List Delivery) × (answers ≡ front ++ delivery.Empty ∷ []) × AllGoOn front
EndsAs pairs n answers stop.Ended = (length answers ≤ n) × (front : List Delivery) × (answers ≡ front ++ delivery.Ended ∷ []) × AllGoOn front
EndsAs pairs n answers stop.WriteFailed =
    (length answers ≤ n) × (front : List Delivery) × (number : ℕ) × (packet : Packet)
    × (answers ≡ front ++ delivery.Got number packet ∷ []) × AllGoOn front × IsSome (channel_of pairs packet.tag)

-- all of these frames went out
pub record WentOut (frames : List (List ℕ)) (sent cut : ℕ) (before after : Option (List ℕ)) : Type 0 where
  pub all_sent : sent ≡ length frames
  pub none_cut : cut ≡ 0
  pub bytes : Appends before after (concat frames)

-- all of them went out but the last, and of that one fewer bytes than it has
pub record WasCut (frames : List (List ℕ)) (sent cut : ℕ) (before after : Option (List ℕ)) : Type 0 where
  pub whole : List (List ℕ)
  pub last : List ℕ
  pub frames_are : frames ≡ whole ++ last ∷ []
  pub whole_sent : sent ≡ length whole
  pub last_cut : cut < length last
  pub bytes : Appends before after (concat whole ++ take cut last)

-- what went out of these frames: so many of them, and so many bytes of one more
abbrev pub GoesOut : OutStop → (frames : List (List ℕ)) → (sent cut : ℕ) → (before after : Option (List ℕ)) → Type 0
GoesOut stop.Done frames sent cut before after = WentOut frames sent cut before after
GoesOut stop.Empty frames sent cut before after = WentOut frames sent cut before after
GoesOut stop.Ended frames sent cut before after = WentOut frames sent cut before after
GoesOut stop.WriteFailed frames sent cut before after = WasCut frames sent cut before after

-- What at most n takes of a tap gave, and what went out of it: the tap's answers, one after another, and their frames.
pub record TakesOut {S : Type 0} (gives : S → Delivery → S → Type 0) (pairs : List (Option ChannelPair)) (n : ℕ) (old new : S) (before after : Option (List ℕ)) (report : OutReport) : Type 0 where
  pub answers : List Delivery
  pub run : Takes gives old answers new
  pub ends : EndsAs pairs n answers report.stop
  pub out : GoesOut report.stop (frames_out pairs answers) report.sent report.cut before after
  pub skipped : report.skipped ≡ skipped_of pairs answers

-- The same, with what was lost.
pub record RelaysOut {S : Type 0} (gives : S → Delivery → S → Type 0) (pairs : List (Option ChannelPair)) (n : ℕ) (old new : S) (before after : Option (List ℕ)) (report : OutReport) : Type 0 where
  pub takes : TakesOut gives pairs n old new before after report
  pub lost : report.lost ≡ lost takes.answers
