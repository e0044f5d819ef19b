-- What a connection may do by its peer's address.
use Rattle.std.specs.Prelude.{◌≡◌, ℕ, Bool, true, List, Option, None, Some, Any}
use Rattle.networks.specs.declared.address.Address.{Address}
use Rattle.networks.specs.declared.network.Network.{Network}
use Rattle.networks.specs.Networks.{Holds}

-- it is in one of these networks; where none are given, it is wherever it is
abbrev pub IsIn : Option (List Network) → Address → Type 0
IsIn None address = Unit {0}
IsIn (Some networks) address = Any (λ network. Holds network address) networks

-- it is in one of these networks; without any it is in none
abbrev pub IsListed : Option (List Network) → Address → Type 0
IsListed None address = ⊥
IsListed (Some networks) address = Any (λ network. Holds network address) networks

-- a limit of an address: none where it is exempt
abbrev pub IsLimitOf : (exempt : Option (List Network)) → (most : Option ℕ) → Address → (limit : Option ℕ) → Type 0
IsLimitOf exempt most address limit = (IsListed exempt address → limit ≡ None) × ((IsListed exempt address → ⊥) → limit ≡ most)

-- what a connection may do: to publish, to play, and how many mounts its address may have, if they are limited
pub record Granted : Type 0 where
  pub may_publish : Bool
  pub may_play : Bool
  pub most_mounts : Option ℕ

-- everything
abbrev pub everything : Granted
everything = record { may_publish = true; may_play = true; most_mounts = None }
