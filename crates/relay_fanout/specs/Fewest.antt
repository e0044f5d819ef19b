-- Which writer has the fewest players.
use Rattle.std.specs.Prelude.{◌≡◌, ℕ, ◌<◌, ◌≤◌, List, Some, All, take, slice_get}
use Rattle.relay_fanout.specs.declared.sending.fewest.Fewest.{Fewest}

-- Of writers with so many players each, this is the first with the fewest: none has fewer, and each before it has more.
pub record IsFewestOf (counts : List ℕ) (fewest : Fewest) : Type 0 where
  pub its_own : slice_get counts fewest.writer ≡ Some fewest.players
  pub least : All (λ players. fewest.players ≤ players) counts
  pub first : All (λ players. fewest.players < players) (take fewest.writer counts)
