-- The fields of a line of version 1 (HAProxy's PROXY protocol, 2.1).
use Rattle.std.specs.Prelude.{◌≡◌, ◌≢◌, ◌==◌, ◌<◌, ℕ, List, [], ◌∷◌, Option, None, Some, length, slice_index}
use Rattle.std.specs.List.{slice_split}
use Rattle.std.specs.Net.Addr.{IsCanonicalOf}
use Rattle.std.specs.Net.Grammar.{IsIpv4Text, IsIpv6Text}
use Rattle.std.specs.declared.net.ip_addr.IpAddr.{IpAddr}
use Rattle.std.specs.declared.net.ip_addr.IpAddr.TheVariants as Ip
use Rattle.std.specs.declared.net.ipv4_addr.Ipv4Addr.{Ipv4Addr}
use Rattle.std.specs.declared.net.ipv6_addr.Ipv6Addr.{Ipv6Addr}
use Rattle.std.specs.declared.net.socket_addr.SocketAddr.{SocketAddr}
use Rattle.base_syntax.specs.Numbers.{IsNumberUpTo}
use Rattle.proxy_header.specs.Clients.{IsClientAt}
use Rattle.proxy_header.specs.declared.fields.Fields.{Fields}
use Rattle.proxy_header.specs.declared.line.Protocol.{Protocol}
use Rattle.proxy_header.specs.declared.line.Protocol.TheVariants.{Tcp4, Tcp6, Unknown}

-- a port: digits without a leading zero that write at most 65,535
pub record IsPort (text : List ℕ) (port : ℕ) : Type 0 where
  pub number : IsNumberUpTo 65_535 text port
  pub no_leading_zero : 1 < length text → slice_index text 0 ≢ 48

abbrev pub IsNoPort : List ℕ → Type 0
IsNoPort text = (port : ℕ) → IsPort text port → ⊥

-- the fields of a text are what is between its spaces
abbrev pub parts_of : List ℕ → List (List ℕ)
parts_of text = slice_split (λ b. b == 32) text

-- there are four
abbrev pub AreFields : (text : List ℕ) → Fields → Type 0
AreFields text fields = parts_of text ≡ fields.source.now ∷ fields.destination.now ∷ fields.source_port.now ∷ fields.destination_port.now ∷ []

abbrev pub HasNoFields : List ℕ → Type 0
HasNoFields text = (a b c d : List ℕ) → parts_of text ≡ a ∷ b ∷ c ∷ d ∷ [] → ⊥

-- The fields are the client's address and the proxy's, as texts of one kind, and their ports.
pub record AreAddresses {A : Type 0} (IsText : List ℕ → A → Type 0) (text : List ℕ) (ip : A) (port : ℕ) : Type 0 where
  pub source : List ℕ
  pub destination : List ℕ
  pub source_port : List ℕ
  pub destination_port : List ℕ
  pub parts : parts_of text ≡ source ∷ destination ∷ source_port ∷ destination_port ∷ []
  pub source_is : IsText source ip
  pub own : A
  pub destination_is : IsText destination own
  pub source_port_is : IsPort source_port port
  pub own_port : ℕ
  pub destination_port_is : IsPort destination_port own_port

-- the fields give this client, by IPv4
pub record IsTcp4 (text : List ℕ) (client : SocketAddr) : Type 0 where
  pub ip : Ipv4Addr
  pub port : ℕ
  pub addresses : AreAddresses IsIpv4Text text ip port
  pub client_is : IsClientAt (Ip.V4 ip) port client

-- or by IPv6; an IPv4-mapped address is its IPv4 address (RFC 4291, 2.5.5.2)
pub record IsTcp6 (text : List ℕ) (client : SocketAddr) : Type 0 where
  pub ip : Ipv6Addr
  pub unmapped : IpAddr
  pub port : ℕ
  pub addresses : AreAddresses IsIpv6Text text ip port
  pub canonical : IsCanonicalOf ip unmapped
  pub client_is : IsClientAt unmapped port client

abbrev pub IsNoTcp4 : List ℕ → Type 0
IsNoTcp4 text = (client : SocketAddr) → IsTcp4 text client → ⊥

abbrev pub IsNoTcp6 : List ℕ → Type 0
IsNoTcp6 text = (client : SocketAddr) → IsTcp6 text client → ⊥

-- what the text after the words of a line gives: the client's address, or, after UNKNOWN, any text gives none
abbrev pub GivesClient : Protocol → (text : List ℕ) → Option SocketAddr → Type 0
GivesClient Tcp4 text None = ⊥
GivesClient Tcp4 text (Some client) = IsTcp4 text client
GivesClient Tcp6 text None = ⊥
GivesClient Tcp6 text (Some client) = IsTcp6 text client
GivesClient Unknown text None = Unit {0}
GivesClient Unknown text (Some client) = ⊥

abbrev pub GivesNoClient : Protocol → (text : List ℕ) → Type 0
GivesNoClient protocol text = (client : Option SocketAddr) → GivesClient protocol text client → ⊥
