-- On which channel of the target a frame of the source goes on (RFC 2326, 10.12).
use Rattle.std.specs.Prelude.{◌≡◌, ◌≢◌, ℕ, Bool, true, false, List, Option, Some, None}
use Rattle.transport_header.specs.Tracks.{channel_of}
use Rattle.transport_header.specs.declared.spec.ChannelPair.{ChannelPair}
use Rattle.rtsp_client.specs.declared.frame_account.FrameFate.{FrameFate}
use Rattle.rtsp_client.specs.declared.frame_account.FrameFate.TheVariants.{Waits, UnknownChannel, BeforeRecording, Unsent}

-- The track that has this channel at the source has that one at the target, for RTP or for RTCP alike. Or no track has either.
abbrev pub IsTargetOf : (source target : List (Option ChannelPair)) → (channel : ℕ) → Option ℕ → Type 0
IsTargetOf source target channel (Some other) = (tag : ℕ) × (channel_of source tag ≡ Some channel) × (channel_of target tag ≡ Some other)
IsTargetOf source target channel None = (tag : ℕ) → channel_of source tag ≡ Some channel → channel_of target tag ≡ None

-- what becomes of a frame that comes on a channel, before the client stops or ends, or later
abbrev pub IsFateOf : (source target : List (Option ChannelPair)) → (channel : ℕ) → (is_recording is_over : Bool) → FrameFate → Type 0
IsFateOf source target channel is_recording is_over (Waits other) = (is_recording ≡ true) × (is_over ≡ false) × IsTargetOf source target channel (Some other)
IsFateOf source target channel is_recording is_over Unsent =
    (is_recording ≡ true) × (is_over ≡ true) × ((other : ℕ) × IsTargetOf source target channel (Some other))
IsFateOf source target channel is_recording is_over BeforeRecording = (is_recording ≡ false) × ((tag : ℕ) × (channel_of source tag ≡ Some channel))
IsFateOf source target channel is_recording is_over UnknownChannel =
    IsTargetOf source target channel None × (is_recording ≡ false → (tag : ℕ) → channel_of source tag ≢ Some channel)
