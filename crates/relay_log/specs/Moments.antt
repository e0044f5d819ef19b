-- Moments at which something is due. They are milliseconds.
use Rattle.std.specs.Prelude.{ℕ, min, Option, None, Some}

-- the sooner of two moments
abbrev pub sooner_of : (one other : Option ℕ) → Option ℕ
sooner_of None other = other
sooner_of (Some one) None = Some one
sooner_of (Some one) (Some other) = Some (min one other)
