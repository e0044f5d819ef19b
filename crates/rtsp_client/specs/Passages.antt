-- The frames that go on from the source to the target.
use Rattle.std.specs.Prelude.{◌≡◌, ℕ, ◌*◌, ◌+◌, ◌<◌, Bool, true, false, List, Option, Some, None, Result, Ok, Err, replicate, slice_set}
use Rattle.sequence_counts.specs.Header.{HasFixedHeader, sequence_number_of, source_of}
use Rattle.sequence_counts.specs.Tracks.{CountsPacket, Tracks, at, counts_of}
use Rattle.transport_header.specs.Tracks.{MayHave, channel_of}
use Rattle.transport_header.specs.declared.spec.ChannelPair.{ChannelPair}
use Rattle.rtsp_client.specs.Accounts.{Frames, no_frames}
use Rattle.rtsp_client.specs.declared.asked.Side.{Side}
use Rattle.rtsp_client.specs.declared.asked.Side.TheVariants.{Source, Target}
use Rattle.rtsp_client.specs.declared.frame_account.FrameFate.{FrameFate}
use Rattle.rtsp_client.specs.declared.frame_account.FrameFate.TheVariants.{Waits, UnknownChannel, BeforeRecording, Unsent}
use Rattle.rtsp_client.specs.declared.passage.Passage.{Passage}
use Rattle.rtsp_client.specs.declared.reply_channels.ChannelFault.{ChannelFault}
use Rattle.rtsp_client.specs.declared.reply_channels.ChannelFault.TheVariants.{OfAnotherTrack}

abbrev pub new_passage : Passage
new_passage = record {
  map = record { source = replicate 16 None; target = replicate 16 None };
  tracks = replicate 16 0;
  account = no_frames;
  counts = replicate 16 None;
}

abbrev pub with_account : Passage → Frames → Passage
with_account passage account = record passage { account = account }

-- the channels of the tracks at a side
abbrev pub pairs_at : Side → Passage → List (Option ChannelPair)
pairs_at Source passage = passage.map.source
pairs_at Target passage = passage.map.target

-- the track that has this place has these channels at a side, and at the source is this track of the description
abbrev pub with_pair : Side → (place track : ℕ) → ChannelPair → Passage → Passage
with_pair Source place track pair passage = record passage {
  map = record passage.map { source = slice_set passage.map.source place (Some pair) };
  tracks = slice_set passage.tracks place track;
}
with_pair Target place track pair passage = record passage { map = record passage.map { target = slice_set passage.map.target place (Some pair) } }

-- it is given these channels, or it may not have them
abbrev pub TakesPair : Side → (place track : ℕ) → ChannelPair → (old new : Passage) → Result (Unit {0}) ChannelFault → Type 0
TakesPair side place track pair old new (Ok done) = MayHave (pairs_at side old) place pair × (new ≡ with_pair side place track pair old)
TakesPair side place track pair old new (Err fault) = (fault ≡ OfAnotherTrack) × (MayHave (pairs_at side old) place pair → ⊥) × (new ≡ old)

-- the same of the channels of one side
abbrev pub GivesPair : (place : ℕ) → ChannelPair → (old new : List (Option ChannelPair)) → Result (Unit {0}) ChannelFault → Type 0
GivesPair place pair old new (Ok done) = MayHave old place pair × (new ≡ slice_set old place (Some pair))
GivesPair place pair old new (Err fault) = (fault ≡ OfAnotherTrack) × (MayHave old place pair → ⊥) × (new ≡ old)

-- it is dropped
abbrev pub is_dropped : FrameFate → Bool
is_dropped (Waits channel) = false
is_dropped UnknownChannel = true
is_dropped BeforeRecording = true
is_dropped Unsent = true

-- RTCP of a track comes on this channel
abbrev pub IsRtcpOn : List (Option ChannelPair) → (channel : ℕ) → Type 0
IsRtcpOn pairs channel = (track : ℕ) × (channel_of pairs (2 * track + 1) ≡ Some channel)

-- An RTP packet on a track's first channel is counted for this track, by its number and its source (RFC 3550, A.1).
abbrev pub IsCounted : List (Option ChannelPair) → (channel : ℕ) → (payload : List ℕ) → (old new : Tracks) → Type 0
IsCounted pairs channel payload old new =
    (track : ℕ) → track < 16 → channel_of pairs (2 * track) ≡ Some channel → HasFixedHeader payload
    → CountsPacket (counts_of (at old track)) (counts_of (at new track)) (sequence_number_of payload) (source_of payload)
    × (new ≡ slice_set old track (at new track))
