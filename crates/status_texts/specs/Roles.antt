-- How many sessions there are.
use Rattle.std.specs.Prelude.{ℕ, List}

-- how many have a role and a state
pub record RoleCount : Type 0 where
  pub role : List ℕ
  pub state : List ℕ
  pub count : ℕ
