-- The tracks that have channels at a side.
use Rattle.std.specs.Prelude.{ℕ, ◌<◌, List, Option, IsSome}
use Rattle.transport_header.specs.Tracks.{pair_at}
use Rattle.transport_header.specs.declared.spec.ChannelPair.{ChannelPair}

-- each track whose place is below this number has channels
abbrev pub AreGiven : List (Option ChannelPair) → (below : ℕ) → Type 0
AreGiven pairs below = (place : ℕ) → place < below → IsSome (pair_at pairs place)
