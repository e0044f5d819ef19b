-- The channels that a reply to SETUP gives a track (RFC 2326, 12.39).
use Rattle.std.specs.Prelude.{ℕ, Bool, true, false, List, [], Option, Some, None, Result, Ok, Err, codes, drop, slice_get, slice_index_or}
use Rattle.std.specs.List.{list_any}
use Rattle.base_syntax.specs.Blanks.{trimmed}
use Rattle.base_syntax.specs.Names.{same_name}
use Rattle.base_syntax.specs.Quotes.{parts}
use Rattle.transport_header.specs.Transport.{name_of, specs_of}
use Rattle.transport_header.specs.declared.spec.ChannelPair.{ChannelPair}
use Rattle.transport_header.specs.declared.spec.Protocol.{Protocol}
use Rattle.transport_header.specs.declared.spec.Protocol.TheVariants.{Tcp, Other as other_protocol}
use Rattle.transport_header.specs.declared.spec.Spec.{Spec}
use Rattle.rtsp_client.specs.declared.reply_channels.ChannelFault.{ChannelFault}
use Rattle.rtsp_client.specs.declared.reply_channels.ChannelFault.TheVariants.{NotInterleaved, Unreadable}
use Rattle.rtsp_client.specs.declared.reply_channels.ReplyChannels.{ReplyChannels}
use Rattle.rtsp_client.specs.declared.reply_channels.ReplyChannels.TheVariants.{AsAsked, Given, Fault}

-- a part of a transport is a parameter of this name
abbrev pub is_parameter : (name : List ℕ) → (part : List ℕ) → Bool
is_parameter name part = same_name (trimmed (name_of (trimmed part))) name

-- the first transport of a Transport header's text has a parameter `interleaved`
abbrev pub has_interleaved : List ℕ → Bool
has_interleaved text = list_any (is_parameter (codes "interleaved")) (drop 1 (parts 59 (slice_index_or (parts 44 text) 0 [])))

-- by the protocol, the channels that `interleaved` names if it can be read, and whether it is there: over TCP without it those asked for
abbrev pub channels_at : Protocol → Option ChannelPair → (has : Bool) → ReplyChannels
channels_at other_protocol pair has = Fault NotInterleaved
channels_at Tcp (Some pair) has = Given pair
channels_at Tcp None true = Fault Unreadable
channels_at Tcp None false = AsAsked

abbrev pub channels_by : Option Spec → (has : Bool) → ReplyChannels
channels_by (Some spec) has = channels_at spec.protocol spec.interleaved has
channels_by None has = Fault NotInterleaved

-- what a reply's Transport header names: its first transport, if it has one
abbrev pub channels_of : (transport : Option (List ℕ)) → ReplyChannels
channels_of (Some text) = channels_by (slice_get (specs_of text) 0) (has_interleaved text)
channels_of None = Fault NotInterleaved

-- the channels of a track
abbrev pub pair_by : ReplyChannels → (asked : ChannelPair) → Result ChannelPair ChannelFault
pair_by AsAsked asked = Ok asked
pair_by (Given pair) asked = Ok pair
pair_by (Fault fault) asked = Err fault
