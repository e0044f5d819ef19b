-- The addresses by which peers are counted.
use Rattle.std.specs.Prelude.{◌≡◌, ◌++◌, take, replicate}
use Rattle.networks.specs.declared.address.Address.{Address}
use Rattle.networks.specs.declared.address.Address.TheVariants.{V4, V6}
use Rattle.networks.specs.Addresses.{bits_of, width_of}

-- an IPv4 address is counted by itself, and an IPv6 address by its first 64 bits with zeros after them
abbrev pub IsGroupOf : (address group : Address) → Type 0
IsGroupOf (V4 number) group = group ≡ V4 number
IsGroupOf (V6 number) group = (width_of group ≡ 128) × (bits_of group ≡ take 64 (bits_of (V6 number)) ++ replicate 64 0)

-- two peers that are counted together: their IPv4 addresses are equal, or the first 64 bits of their IPv6 addresses
abbrev pub AreCountedTogether : Address → Address → Type 0
AreCountedTogether (V4 a) (V4 b) = a ≡ b
AreCountedTogether (V6 a) (V6 b) = take 64 (bits_of (V6 a)) ≡ take 64 (bits_of (V6 b))
AreCountedTogether (V4 a) (V6 b) = ⊥
AreCountedTogether (V6 a) (V4 b) = ⊥
