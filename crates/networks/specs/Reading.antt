-- Texts of networks (RFC 4632, 3.1; RFC 4291, 2.3).
use Rattle.std.specs.Prelude.{◌≡◌, ◌==◌, ◌<◌, ◌⊎◌, ⊤, ℕ, List, [], ◌∷◌, length, Option, None, Some, nat_le, if◌then◌else◌, unwrap_or}
use Rattle.std.specs.List.{before_first, slice_split}
use Rattle.std.specs.declared.net.ip_addr.IpAddr.{IpAddr}
use Rattle.std.specs.declared.net.ip_addr.IpAddr.TheVariants as Ip
use Rattle.std.specs.Net.Addr.{ipv6_segments, IsIpv4Mapped}
use Rattle.std.specs.Net.Grammar.{IsIpText}
use Rattle.base_syntax.specs.Cuts.{behind_first}
use Rattle.base_syntax.specs.Numbers.{number_up_to}
use Rattle.networks.specs.declared.network.Network.{Network}
use Rattle.networks.specs.declared.fault.NetworkFault.{NetworkFault}
use Rattle.networks.specs.declared.fault.NetworkFault.TheVariants.{Empty, BadText, Mapped, TooManyBits, HostBits, OutOfMemory}
use Rattle.networks.specs.Addresses.{address_of, width_of}
use Rattle.networks.specs.Networks.{IsRefusedAs}

-- the number that one to three decimal digits write
abbrev pub number_of_bits : List ℕ → Option ℕ
number_of_bits digits = if nat_le (length digits) 3 then number_up_to 999 digits else None

-- the number of bits that a text writes after its first slash, if it has one
abbrev pub AreBits : (after_slash : Option (List ℕ)) → (bits : Option ℕ) → Type 0
AreBits None bits = bits ≡ None
AreBits (Some digits) None = ⊥
AreBits (Some digits) (Some bits) = number_of_bits digits ≡ Some bits

-- The text is an address, or an address, a slash and a number of bits.
pub record IsWrittenAs (text : List ℕ) (ip : IpAddr) (bits : Option ℕ) : Type 0 where
  pub address : IsIpText (before_first (λ b. b == 47) text) ip
  pub number : AreBits (behind_first 47 text) bits

-- the text is neither
abbrev pub WritesNone : List ℕ → Type 0
WritesNone text = (ip : IpAddr) (bits : Option ℕ) → IsWrittenAs text ip bits → ⊥

-- the address is an IPv4-mapped IPv6 address (RFC 4291, 2.5.5.2)
abbrev pub IsMapped : IpAddr → Type 0
IsMapped (Ip.V4 ip) = ⊥
IsMapped (Ip.V6 ip) = IsIpv4Mapped (ipv6_segments ip)

-- how many bits a network has: as its text says, or all bits of its address
abbrev pub bits_or_all : IpAddr → Option ℕ → ℕ
bits_or_all ip bits = unwrap_or bits (width_of (address_of ip))

-- The text writes this network.
pub record Spells (text : List ℕ) (network : Network) : Type 0 where
  pub ip : IpAddr
  pub number : Option ℕ
  pub written : IsWrittenAs text ip number
  pub unmapped : IsMapped ip → ⊥
  pub address : network.address ≡ address_of ip
  pub bits : network.bits ≡ bits_or_all ip number

-- The text writes an address and a number of bits that are no network.
pub record WritesRefused (text : List ℕ) (fault : NetworkFault) : Type 0 where
  pub ip : IpAddr
  pub number : Option ℕ
  pub written : IsWrittenAs text ip number
  pub unmapped : IsMapped ip → ⊥
  pub refused : IsRefusedAs (address_of ip) (bits_or_all ip number) fault

-- a text that writes no network, and why
abbrev pub IsFaulty : List ℕ → NetworkFault → Type 0
IsFaulty text Empty = text ≡ []
IsFaulty text BadText = (0 < length text) × WritesNone text
IsFaulty text Mapped = (ip : IpAddr) × (bits : Option ℕ) × IsWrittenAs text ip bits × IsMapped ip
IsFaulty text TooManyBits = WritesRefused text TooManyBits
IsFaulty text HostBits = WritesRefused text HostBits
IsFaulty text OutOfMemory = ⊥

-- what is written between the commas of a text
abbrev pub parts_of : List ℕ → List (List ℕ)
parts_of text = slice_split (λ b. b == 44) text

-- each text writes the network at its place
abbrev pub AreNetworks : List (List ℕ) → List Network → Type 0
AreNetworks [] [] = ⊤
AreNetworks [] (network ∷ networks) = ⊥
AreNetworks (part ∷ parts) [] = ⊥
AreNetworks (part ∷ parts) (network ∷ networks) = Spells part network × AreNetworks parts networks

-- the first of the texts that writes no network has this fault
abbrev pub IsFirstFault : List (List ℕ) → NetworkFault → Type 0
IsFirstFault [] fault = ⊥
IsFirstFault (part ∷ parts) fault = IsFaulty part fault ⊎ (((network : Network) × Spells part network) × IsFirstFault parts fault)

-- why a list of texts is refused; memory may run out at any of them
abbrev pub IsRefused : List (List ℕ) → NetworkFault → Type 0
IsRefused parts Empty = IsFirstFault parts Empty
IsRefused parts BadText = IsFirstFault parts BadText
IsRefused parts Mapped = IsFirstFault parts Mapped
IsRefused parts TooManyBits = IsFirstFault parts TooManyBits
IsRefused parts HostBits = IsFirstFault parts HostBits
IsRefused parts OutOfMemory = ⊤
