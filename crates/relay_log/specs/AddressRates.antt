-- How many lines of each address were logged in a second. Moments are milliseconds.
use Rattle.std.specs.Prelude.{◌≡◌, ◌≢◌, ◌↔◌, ◌/◌, ◌<◌, ℕ, Bool, true, List, [], ◌∷◌, ◌++◌, length, slice_get, slice_set, All, Option, None, IfSome, IsSomeAnd, IsTrue}
use Rattle.std.specs.List.{position}
use Rattle.networks.specs.declared.address.Address.{Address}
use Rattle.networks.specs.Peers.{is_same}
use Rattle.relay_log.specs.declared.line_rate.LineRate.{LineRate}
use Rattle.relay_log.specs.declared.line_rates.Known.{Known}
use Rattle.relay_log.specs.Rates.{MayTell, told_once_more}

-- what is known of addresses, and the rate that the others share
pub record Rates : Type 0 where
  pub known : List Known
  pub others : LineRate

-- the place of an address among those that are known
abbrev pub place_in : Address → List Known → Option ℕ
place_in address known = position (λ other. is_same other.address address) known

-- each of these addresses had its last line in this second
abbrev pub AreBusy : List Known → (second : ℕ) → Type 0
AreBusy known second = All (λ other. other.rate.second ≡ second) known

-- an address whose first line is logged at this moment
abbrev pub once_told : Address → (now : ℕ) → Known
once_told address now = record { address = address; rate = record { second = now / 1000; count = 1 } }

-- The address takes the place of one that had no line in this second, with a line of its own.
pub record TakesPlace (old new : Rates) (address : Address) (now : ℕ) : Type 0 where
  pub place : ℕ
  pub quiet : IsSomeAnd (slice_get old.known place) (λ other. other.rate.second ≢ now / 1000)
  pub taken : new ≡ record old { known = slice_set old.known place (once_told address now) }

-- A line is logged exactly if this rate allows one at this moment, and then is counted there. Else all stays as it was.
pub record Tells (old new : Rates) (rate : LineRate) (now : ℕ) (told : Bool) (counted : LineRate → Rates) : Type 0 where
  pub allowed : IsTrue told ↔ MayTell rate now
  pub told_more : IsTrue told → new ≡ counted (told_once_more rate now)
  pub same : (IsTrue told → ⊥) → new ≡ old

-- A line of this address is logged exactly if its rate allows one at this moment, or if it has a place of its own from now on, or else
-- if the rate of the others allows one. Then it is counted there. Else all stays as it was.
pub record TellsAddress (old new : Rates) (address : Address) (now : ℕ) (told : Bool) : Type 0 where
  pub known : IfSome (place_in address old.known) (λ place. IsSomeAnd (slice_get old.known place) (λ known. IsTrue told ↔ MayTell known.rate now))
  pub counted : IfSome (place_in address old.known) (λ place. IsTrue told → IsSomeAnd (slice_get old.known place) (λ known.
      new ≡ record old { known = slice_set old.known place (record known { rate = told_once_more known.rate now }) }))
  pub same : (IsTrue told → ⊥) → new ≡ old
  pub added : place_in address old.known ≡ None → length old.known < 256
      → (told ≡ true) × (new ≡ record old { known = old.known ++ once_told address now ∷ [] })
  pub taken : place_in address old.known ≡ None → length old.known ≡ 256 → (AreBusy old.known (now / 1000) → ⊥)
      → (told ≡ true) × TakesPlace old new address now
  pub others : place_in address old.known ≡ None → length old.known ≡ 256 → AreBusy old.known (now / 1000)
      → Tells old new old.others now told (λ rate. record old { others = rate })
