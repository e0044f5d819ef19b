-- Networks and the addresses in them (RFC 4632, 3.1; RFC 4291, 2.3).
use Rattle.std.specs.Prelude.{◌≡◌, ◌<◌, ◌≤◌, ℕ, take}
use Rattle.networks.specs.declared.address.Address.{Address}
use Rattle.networks.specs.declared.network.Network.{Network}
use Rattle.networks.specs.declared.fault.NetworkFault.{NetworkFault}
use Rattle.networks.specs.declared.fault.NetworkFault.TheVariants.{Empty, BadText, Mapped, TooManyBits, HostBits, OutOfMemory}
use Rattle.networks.specs.Addresses.{bits_of, width_of, HasNoHostBits}

-- The address is in the network: it is of the same family, and its first bits are the network's.
pub record Holds (network : Network) (address : Address) : Type 0 where
  pub family : width_of address ≡ width_of network.address
  pub prefix : take network.bits (bits_of address) ≡ take network.bits (bits_of network.address)

-- an address and a number of bits that are no network, and why
abbrev pub IsRefusedAs : Address → (bits : ℕ) → NetworkFault → Type 0
IsRefusedAs address bits TooManyBits = width_of address < bits
IsRefusedAs address bits HostBits = (bits ≤ width_of address) × (HasNoHostBits address bits → ⊥)
IsRefusedAs address bits Empty = ⊥
IsRefusedAs address bits BadText = ⊥
IsRefusedAs address bits Mapped = ⊥
IsRefusedAs address bits OutOfMemory = ⊥
