-- What is shown of a player.
use Rattle.std.specs.Prelude.{ℕ, List}

-- the figures of the player in a seat; the seat's number and the player's address are texts
pub record Seat : Type 0 where
  pub mount : List ℕ
  pub seat : List ℕ
  pub peer : List ℕ
  pub sent : ℕ
  pub bytes : ℕ
  pub skipped : ℕ
  pub lost : ℕ
  pub behind : ℕ
  pub waiting : ℕ
