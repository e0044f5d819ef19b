-- What `Display` writes.
use Rattle.std.specs.Prelude.{ℕ, List, ◌++◌, codes, decimal}
use Rattle.std.specs.Int.{w32, w128, to_be_bytes}
use Rattle.std.specs.Net.Addr.{segments_of}
use Rattle.std.specs.Net.Text.{ipv4_text, ipv6_text}
use Rattle.networks.specs.declared.address.Address.{Address}
use Rattle.networks.specs.declared.address.Address.TheVariants.{V4, V6}
use Rattle.networks.specs.declared.network.Network.{Network}

-- an address as a.b.c.d, or in groups of hexadecimal digits (RFC 5952)
abbrev pub address_text : Address → List ℕ
address_text (V4 number) = ipv4_text (to_be_bytes w32 number)
address_text (V6 number) = ipv6_text (segments_of (to_be_bytes w128 number))

-- the address, a slash and how many bits
abbrev pub network_text : Network → List ℕ
network_text network = address_text network.address ++ codes "/" ++ decimal network.bits
