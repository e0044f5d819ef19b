-- The channels of tracks, as a command line writes them.
use Rattle.std.specs.Prelude.{◌≡◌, ◌==◌, ◌<◌, ◌+◌, ℕ, List, [], ◌∷◌, Option, None, Some, IsSomeAnd, replicate, slice_set}
use Rattle.std.specs.List.{before_first, slice_split}
use Rattle.base_syntax.specs.Cuts.{behind_first}
use Rattle.base_syntax.specs.Numbers.{number_up_to}
use Rattle.transport_header.specs.declared.spec.ChannelPair.{ChannelPair}
use Rattle.transport_header.specs.Tracks.{MayHave}

-- a text writes a pair of channels: two numbers of at most 255 with a `-` between them
pub record WritesPair (text : List ℕ) (pair : ChannelPair) : Type 0 where
  pub first : number_up_to 255 (before_first (λ b. b == 45) text) ≡ Some pair.first
  pub second : IsSomeAnd (behind_first 45 text) (λ rest. number_up_to 255 rest ≡ Some pair.second)

-- Each part writes the pair of one track, of the first part this track, of the next part the next one. A channel is given once.
abbrev pub GivesFrom : (track : ℕ) → (before : List (Option ChannelPair)) → (parts : List (List ℕ)) → (after : List (Option ChannelPair)) → Type 0
GivesFrom track before [] after = after ≡ before
GivesFrom track before (part ∷ parts) after =
    (track < 16) × (pair : ChannelPair) × WritesPair part pair × MayHave before track pair × GivesFrom (track + 1) (slice_set before track (Some pair)) parts after

-- the channels that a text gives to tracks, from the first track on, in parts with commas between them
abbrev pub GivesChannels : (text : List ℕ) → (channels : List (Option ChannelPair)) → Type 0
GivesChannels text channels = GivesFrom 0 (replicate 16 None) (slice_split (λ b. b == 44) text) channels
