-- What a Transport header's value asks for (RFC 2326, 12.39).
use Rattle.std.specs.Prelude.{ℕ, ◌+◌, ◌==◌, ◌||◌, Bool, cond, nat_lt, List, [], Option, None, Some, is_some, unwrap_or, drop, map, find, slice_index_or, codes}
use Rattle.std.specs.List.{list_any, before_first}
use Rattle.std.specs.Option.{option_map, option_and_then, option_map_or}
use Rattle.base_syntax.specs.Blanks.{trimmed}
use Rattle.base_syntax.specs.Cuts.{behind_first}
use Rattle.base_syntax.specs.Names.{same_name}
use Rattle.base_syntax.specs.Numbers.{number_up_to}
use Rattle.base_syntax.specs.Quotes.{parts}
use Rattle.transport_header.specs.Separators.{comma, semicolon, equals_sign, dash}
use Rattle.transport_header.specs.Recording.{without_quotes}
use Rattle.transport_header.specs.declared.spec.Spec.{Spec}
use Rattle.transport_header.specs.declared.spec.ChannelPair.{ChannelPair}
use Rattle.transport_header.specs.declared.spec.Protocol.{Protocol}
use Rattle.transport_header.specs.declared.spec.Protocol.TheVariants.{Tcp, Other}
use Rattle.transport_header.specs.declared.spec.Mode.{Mode}
use Rattle.transport_header.specs.declared.spec.Mode.TheVariants.{Play, Record}

-- the first part of a spec: transport, profile and lower transport
abbrev pub protocol_of : List ℕ → Protocol
protocol_of part = cond (same_name part (codes "RTP/AVP/TCP")) Tcp Other

-- a parameter is `name` or `name=value`: its name, and its value, which is empty where it has none
abbrev pub name_of : List ℕ → List ℕ
name_of parameter = before_first (λ b. b == equals_sign) parameter

abbrev pub value_of : List ℕ → List ℕ
value_of parameter = unwrap_or (behind_first equals_sign parameter) []

-- the value of the first of the parameters that has a name
abbrev pub value_named : List ℕ → List (List ℕ) → Option (List ℕ)
value_named name parameters = option_map value_of (find (λ parameter. same_name (name_of parameter) name) parameters)

-- the channel that decimal digits name, 0 to 255
abbrev pub channel_of : List ℕ → Option ℕ
channel_of digits = number_up_to 255 digits

-- the channel after another, where there is one
abbrev pub next_channel : ℕ → Option ℕ
next_channel channel = cond (nat_lt channel 255) (Some (channel + 1)) None

-- the second channel: that of `interleaved=a-b`, where digits stand after the dash, and the one after the first of
-- `interleaved=a`
abbrev pub second_of : Option (List ℕ) → ℕ → Option ℕ
second_of None first = next_channel first
second_of (Some digits) first = channel_of digits

-- both channels
unfoldable pub channels_of : List ℕ → Option ChannelPair
channels_of value =
    option_and_then
    (λ first. option_map (λ second. record { first = first; second = second }) (second_of (behind_first dash value) first))
    (channel_of (before_first (λ b. b == dash) value))

-- a part of `mode`'s value that asks for recording
abbrev pub asks_record : List ℕ → Bool
asks_record part = same_name (trimmed part) (codes "record") || same_name (trimmed part) (codes "receive")

-- the mode that `mode`'s value asks for: without its quotes, which leaves none, it is cut at commas
unfoldable pub mode_of : List ℕ → Mode
mode_of value = cond (list_any asks_record (parts comma (without_quotes value))) Record Play

-- what a spec's parameters ask for: nothing and PLAY where they don't say
abbrev pub channels_in : List (List ℕ) → Option ChannelPair
channels_in parameters = option_and_then channels_of (value_named (codes "interleaved") parameters)

abbrev pub mode_in : List (List ℕ) → Mode
mode_in parameters = option_map_or mode_of (value_named (codes "mode") parameters) Play

-- a spec of its parts: the first names the transport, the others are parameters
abbrev pub spec_of_parts : List (List ℕ) → Spec
spec_of_parts all = record {
  protocol = protocol_of (slice_index_or all 0 []);
  multicast = is_some (value_named (codes "multicast") (drop 1 all));
  interleaved = channels_in (drop 1 all);
  mode = mode_in (drop 1 all);
}

-- the spec that a text holds, cut at semicolons
unfoldable pub spec_of : List ℕ → Spec
spec_of text = spec_of_parts (map trimmed (parts semicolon text))

-- the specs of a Transport header's value, cut at commas, in order
unfoldable pub specs_of : List ℕ → List Spec
specs_of text = map spec_of (parts comma text)
