-- The channels of a session's tracks (RFC 2326, 10.12 and 12.39).
use Rattle.std.specs.Prelude.{◌≡◌, ◌≢◌, ℕ, ◌/◌, ◌%◌, ◌<◌, ◌==◌, ◌↔◌, List, Option, None, Some, length, get_or, option_map, if◌then◌else◌}
use Rattle.transport_header.specs.declared.spec.ChannelPair.{ChannelPair}

-- the pair of channels of a track, if it is set up
abbrev pub pair_at : List (Option ChannelPair) → (track : ℕ) → Option ChannelPair
pair_at pairs track = get_or pairs track None

-- the channel of a packet with this tag, on a pair: RTP, whose tags are even, goes on the first and RTCP on the second
abbrev pub channel_in : (tag : ℕ) → ChannelPair → ℕ
channel_in tag pair = if tag % 2 == 0 then pair.first else pair.second

-- the channel of the packets with a tag, which is 2 * track, and 1 more for RTCP; none where the track isn't set up
abbrev pub channel_of : List (Option ChannelPair) → (tag : ℕ) → Option ℕ
channel_of pairs tag = option_map (channel_in tag) (pair_at pairs (tag / 2))

-- the tag of the packets that come on a channel: the only one whose channel it is; none where it is no tag's channel
abbrev pub IsTagOn : List (Option ChannelPair) → (channel : ℕ) → Option ℕ → Type 0
IsTagOn pairs channel None = (tag : ℕ) → channel_of pairs tag ≢ Some channel
IsTagOn pairs channel (Some tag) = (channel_of pairs tag ≡ Some channel) × ((other : ℕ) → channel_of pairs other ≡ Some channel → other ≡ tag)

-- no other track has this channel
abbrev pub IsFreeFor : List (Option ChannelPair) → (track channel : ℕ) → Type 0
IsFreeFor pairs track channel = (tag : ℕ) → tag / 2 ≢ track → channel_of pairs tag ≢ Some channel

-- another track has this channel
abbrev pub IsOfOther : List (Option ChannelPair) → (track channel : ℕ) → Type 0
IsOfOther pairs track channel = (tag : ℕ) × (tag / 2 ≢ track) × (channel_of pairs tag ≡ Some channel)

-- two channels that a track may have: they differ, and no other track has either
pub record MayHave (pairs : List (Option ChannelPair)) (track : ℕ) (pair : ChannelPair) : Type 0 where
  pub apart : pair.first ≢ pair.second
  pub first : IsFreeFor pairs track pair.first
  pub second : IsFreeFor pairs track pair.second

-- tags by channel are those of these pairs: of sixteen tracks and 256 channels, each channel with the tag whose channel it is
pub record AreTagsOf (pairs : List (Option ChannelPair)) (tags : List (Option ℕ)) : Type 0 where
  pub tracks : length pairs ≡ 16
  pub channels : length tags ≡ 256
  pub fits : (tag channel : ℕ) → channel_of pairs tag ≡ Some channel → channel < 256
  pub same : (channel tag : ℕ) → (get_or tags channel None ≡ Some tag) ↔ (channel_of pairs tag ≡ Some channel)
