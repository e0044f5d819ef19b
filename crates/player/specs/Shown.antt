-- What goes out of a packet that is shown, and of one take whose packet is.
use Rattle.std.specs.Prelude.{◌≡◌, ℕ, ◌<◌, Bool, true, List, Option, None, Some, length, take}
use Rattle.std.specs.Io.KnownBytes.{Appends}
use Rattle.interleaved.specs.Frame.{frame_of}
use Rattle.transport_header.specs.declared.spec.ChannelPair.{ChannelPair}
use Rattle.transport_header.specs.Tracks.{channel_of}
use Rattle.cursor.specs.declared.packets.Packet.{Packet}
use Rattle.cursor.specs.declared.takes.Delivery.{Delivery}
use Rattle.cursor.specs.declared.takes.Delivery.TheVariants.{Got, Lost, Empty, Ended}
use Rattle.player.specs.declared.frame_writer.Outgone.{Outgone}
use Rattle.player.specs.declared.frame_writer.Outgone.TheVariants as outgone
use Rattle.player.specs.declared.holding.Step.{Step}
use Rattle.player.specs.declared.holding.Step.TheVariants as step

-- so much of the packet's frame went out, from what was written before to what is after, and the sink failed if it was cut
abbrev pub WritesFrame : (pairs : List (Option ChannelPair)) → Packet → Outgone → (before after : Option (List ℕ)) → (had_failed has_failed : Bool) → Type 0
WritesFrame pairs packet outgone.Whole before after had_failed has_failed =
    (channel : ℕ) × (channel_of pairs packet.tag ≡ Some channel) × Appends before after (frame_of channel packet.bytes) × (has_failed ≡ had_failed)
WritesFrame pairs packet outgone.Nothing before after had_failed has_failed = (channel_of pairs packet.tag ≡ None) × (after ≡ before) × (has_failed ≡ had_failed)
WritesFrame pairs packet (outgone.Front cut) before after had_failed has_failed =
    (channel : ℕ) × (channel_of pairs packet.tag ≡ Some channel) × (cut < length (frame_of channel packet.bytes))
    × Appends before after (take cut (frame_of channel packet.bytes)) × (has_failed ≡ true)

-- one take that went so: what the tap gave by its own relation, and what went out of its packet
abbrev pub StepsOut : {S : Type 0} → (gives : S → Delivery → S → Type 0) → (pairs : List (Option ChannelPair)) → (old new : S) → (before after : Option (List ℕ)) → Step → Type 0
StepsOut gives pairs old new before after step.Sent =
    (number : ℕ) × (packet : Packet) × (channel : ℕ) × gives old (Got number packet) new × (channel_of pairs packet.tag ≡ Some channel) × Appends before after (frame_of channel packet.bytes)
StepsOut gives pairs old new before after step.Skipped = (number : ℕ) × (packet : Packet) × gives old (Got number packet) new × (channel_of pairs packet.tag ≡ None) × (after ≡ before)
StepsOut gives pairs old new before after (step.Cut cut) =
    (number : ℕ) × (packet : Packet) × (channel : ℕ) × gives old (Got number packet) new × (channel_of pairs packet.tag ≡ Some channel)
    × (cut < length (frame_of channel packet.bytes)) × Appends before after (take cut (frame_of channel packet.bytes))
StepsOut gives pairs old new before after step.Lost = (count : ℕ) × gives old (Lost count) new × (after ≡ before)
StepsOut gives pairs old new before after step.Empty = gives old Empty new × (after ≡ before)
StepsOut gives pairs old new before after step.Ended = gives old Ended new × (after ≡ before)

-- the sink failed where a frame was cut, and else works or has failed as before
abbrev pub KeepsWorking : Step → (had_failed has_failed : Bool) → Type 0
KeepsWorking (step.Cut cut) had_failed has_failed = has_failed ≡ true
KeepsWorking step.Sent had_failed has_failed = has_failed ≡ had_failed
KeepsWorking step.Skipped had_failed has_failed = has_failed ≡ had_failed
KeepsWorking step.Lost had_failed has_failed = has_failed ≡ had_failed
KeepsWorking step.Empty had_failed has_failed = has_failed ≡ had_failed
KeepsWorking step.Ended had_failed has_failed = has_failed ≡ had_failed
