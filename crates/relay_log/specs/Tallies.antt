-- What is logged at most once a minute. Moments are milliseconds.
use Rattle.std.specs.Prelude.{◌≡◌, ℕ, ◌+◌, ◌==◌, ◌≤◌, List, [], ◌∷◌, take, slice_get, slice_set, All, Option, None, Some, if◌then◌else◌, IsSomeAnd}
use Rattle.relay_log.specs.declared.tally.Tally.{Tally}
use Rattle.relay_accounts.specs.Capped.{capped}
use Rattle.relay_log.specs.Moments.{sooner_of}

-- a minute after this moment, or at once
abbrev pub a_minute_after : Option ℕ → ℕ
a_minute_after None = 0
a_minute_after (Some told) = capped (told + 60000)

-- when a tally is due to be logged: a minute after the last time, or at once; never if nothing came
abbrev pub due_at : Tally → Option ℕ
due_at tally = if tally.count == 0 then None else Some (a_minute_after tally.told)

-- it is due to be logged at this moment
abbrev pub IsDue : Tally → (now : ℕ) → Type 0
IsDue tally now = IsSomeAnd (due_at tally) (λ due. due ≤ now)

-- the earliest of these moments
abbrev pub earliest : List (Option ℕ) → Option ℕ
earliest [] = None
earliest (moment ∷ moments) = sooner_of moment (earliest moments)

-- Of these tallies the first that is due at this moment is logged, at this place and with this count. The others stay as they were.
pub record IsToldFirst (old new : List Tally) (now place count : ℕ) : Type 0 where
  pub due : IsSomeAnd (slice_get old place) (λ tally. IsDue tally now × (tally.count ≡ count))
  pub none_before : All (λ tally. IsDue tally now → ⊥) (take place old)
  pub told : new ≡ slice_set old place (record { count = 0; told = Some now })
