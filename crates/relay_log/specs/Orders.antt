-- Which players a report tells of, and in which order the next one does.
use Rattle.std.specs.Prelude.{◌≡◌, ℕ, ◌<◌, Bool, nat_lt, List, ◌++◌, take, drop, count_by, slice_get, Option}
use Rattle.status.specs.declared.player_status.PlayerStatus.{PlayerStatus}

-- a player has lost packets since the last line that reported it
abbrev pub has_lost : PlayerStatus → Bool
has_lost player = nat_lt 0 player.since.lost

-- how many of these players have
abbrev pub losers : List PlayerStatus → ℕ
losers players = count_by has_lost players

-- the list of the next report: the players from this place on, of whom none was told of, and then those before it
abbrev pub untold_first : {T : Type 0} → (end : ℕ) → List T → List T
untold_first end list = drop end list ++ take end list

-- The list has the first item at some place, and the second at a later one.
pub record ComesBefore {T : Type 0} (list : List T) (first second : Option T) : Type 0 where
  pub place : ℕ
  pub later : ℕ
  pub order : place < later
  pub has_first : slice_get list place ≡ first
  pub has_second : slice_get list later ≡ second
