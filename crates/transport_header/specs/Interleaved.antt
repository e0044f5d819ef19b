-- What the value of `interleaved` may be, apart from how it is read (RFC 2326, 12.39: "interleaved" "=" channel [ "-" channel ]).
use Rattle.std.specs.Prelude.{◌≡◌, ℕ, ◌<◌, ◌+◌, List, ◌∷◌, ◌++◌, ◌⊎◌}
use Rattle.base_syntax.specs.Numbers.{IsNumberUpTo}
use Rattle.transport_header.specs.Separators.{dash}
use Rattle.transport_header.specs.declared.spec.ChannelPair.{ChannelPair}

-- decimal digits, one or more, of a number up to 255
abbrev pub IsChannel : List ℕ → ℕ → Type 0
IsChannel digits channel = IsNumberUpTo 255 digits channel

-- one channel alone, which asks for the next one too where there is one
abbrev pub AsksAlone : List ℕ → ChannelPair → Type 0
AsksAlone value pair = IsChannel value pair.first × (pair.second ≡ pair.first + 1) × (pair.second < 256)

-- two channels, with a dash between them
abbrev pub AsksBoth : List ℕ → ChannelPair → Type 0
AsksBoth value pair = (a : List ℕ) × (b : List ℕ) × (value ≡ a ++ dash ∷ b) × IsChannel a pair.first × IsChannel b pair.second

abbrev pub AsksFor : List ℕ → ChannelPair → Type 0
AsksFor value pair = AsksAlone value pair ⊎ AsksBoth value pair
