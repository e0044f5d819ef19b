-- Addresses and their bits.
use Rattle.std.specs.Prelude.{◌≡◌, ◌-◌, ◌^◌, ◌<◌, ℕ, List, [], ◌∷◌, take, drop, replicate, bytes_eq, if◌then◌else◌}
use Rattle.std.specs.Int.{w32, from_be_bytes}
use Rattle.std.specs.declared.net.ip_addr.IpAddr.{IpAddr}
use Rattle.std.specs.declared.net.ip_addr.IpAddr.TheVariants as Ip
use Rattle.std.specs.Net.Addr.{ipv4_bits, ipv6_bits, ipv6_segments, low_octets}
use Rattle.networks.specs.declared.address.Address.{Address}
use Rattle.networks.specs.declared.address.Address.TheVariants.{V4, V6}
use Rattle.networks.specs.Bits.{binary}

-- the address that a socket reports: an IPv4-mapped IPv6 address, ::ffff:a.b.c.d, is a.b.c.d (RFC 4291, 2.5.5.2)
abbrev pub address_of : IpAddr → Address
address_of (Ip.V4 ip) = V4 (ipv4_bits ip)
address_of (Ip.V6 ip) =
    if bytes_eq (take 6 (ipv6_segments ip)) (0 ∷ 0 ∷ 0 ∷ 0 ∷ 0 ∷ 0xffff ∷ [])
    then V4 (from_be_bytes w32 (low_octets ip))
    else V6 (ipv6_bits ip)

-- how many bits an address of this family has
abbrev pub width_of : Address → ℕ
width_of (V4 number) = 32
width_of (V6 number) = 128

-- an address as a number
abbrev pub number_of : Address → ℕ
number_of (V4 number) = number
number_of (V6 number) = number

-- the number has no more bits than the family's addresses
abbrev pub FitsFamily : Address → Type 0
FitsFamily address = number_of address < 2 ^ width_of address

-- the bits of an address, the most significant first
abbrev pub bits_of : Address → List ℕ
bits_of (V4 number) = binary 32 number
bits_of (V6 number) = binary 128 number

-- the address has zeros after its first `bits` bits
abbrev pub HasNoHostBits : Address → (bits : ℕ) → Type 0
HasNoHostBits address bits = drop bits (bits_of address) ≡ replicate (width_of address - bits) 0
