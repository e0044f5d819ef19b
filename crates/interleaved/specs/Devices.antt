-- What the devices in memory are. What every device is, the traits `Source` and `Sink` say.
use Rattle.std.specs.Prelude.{◌≡◌, ℕ, ◌<◌, ◌≤◌, ◌⊎◌, List, ◌++◌, Option, Bool, true, Some, length, drop}

-- a source in memory: its bytes, how many of them it gave, how many it gives in one read at most, after how many of them it fails, if it does,
-- and whether it has
pub record ListState : Type 0 where
  pub bytes : List ℕ
  pub given : ℕ
  pub piece : ℕ
  pub fail_at : Option ℕ
  pub failed : Bool

-- one read gave these bytes: the next of those still to come, at most a piece of them; and the source's own bytes,
-- its piece and the place where it fails stay
abbrev pub GivesPiece : ListState → List ℕ → ListState → Type 0
GivesPiece old bytes new = (length bytes ≤ old.piece) × (drop old.given old.bytes ≡ bytes ++ drop new.given new.bytes)
    × (new.bytes ≡ old.bytes) × (new.piece ≡ old.piece) × (new.fail_at ≡ old.fail_at)

-- a read into a buffer of so many bytes is refused: the source has failed, or it has come to the place where it fails and there is room to read into
abbrev pub RefusesRead : ListState → ℕ → Type 0
RefusesRead s len = (s.failed ≡ true) ⊎ (0 < len) × (s.fail_at ≡ Some s.given)

-- a sink in memory: the bytes written, how many more it takes, and whether it has failed
pub record RoomState : Type 0 where
  pub written : List ℕ
  pub room : ℕ
  pub failed : Bool

-- a write of so many bytes is refused: the sink has failed, or there are bytes and it is full
abbrev pub RefusesWrite : RoomState → ℕ → Type 0
RefusesWrite s len = (s.failed ≡ true) ⊎ (0 < len) × (s.room ≡ 0)
