-- The header of version 2: a block of bytes (HAProxy's PROXY protocol, 2.2).
use Rattle.std.specs.Prelude.{◌≡◌, ◌+◌, ◌*◌, ◌≤◌, ◌⊎◌, ℕ, List, [], ◌∷◌, ◌++◌, Option, None, Some, length}
use Rattle.std.specs.List.{Contains}
use Rattle.std.specs.Net.Addr.{IsCanonicalOf, ipv4_octets, ipv6_segments, segments_of}
use Rattle.std.specs.declared.net.ip_addr.IpAddr.{IpAddr}
use Rattle.std.specs.declared.net.ip_addr.IpAddr.TheVariants as Ip
use Rattle.std.specs.declared.net.ipv4_addr.Ipv4Addr.{Ipv4Addr}
use Rattle.std.specs.declared.net.ipv6_addr.Ipv6Addr.{Ipv6Addr}
use Rattle.std.specs.declared.net.socket_addr.SocketAddr.{SocketAddr}
use Rattle.proxy_header.specs.Clients.{IsClientAt}
use Rattle.proxy_header.specs.declared.body.Content.{Content}
use Rattle.proxy_header.specs.declared.body.Content.TheVariants.{Skipped, Tcp4, Tcp6}

-- what each block begins with
abbrev pub signature : List ℕ
signature = 0x0d ∷ 0x0a ∷ 0x0d ∷ 0x0a ∷ 0x00 ∷ 0x0d ∷ 0x0a ∷ 0x51 ∷ 0x55 ∷ 0x49 ∷ 0x54 ∷ 0x0a ∷ []

-- version 2 with the command LOCAL, and with PROXY
abbrev pub local : ℕ
local = 0x20

abbrev pub proxy : ℕ
proxy = 0x21

-- Families and protocols of which the connection's own address is kept, and the least length of their addresses: unspecified, UDP over IPv4
-- and over IPv6, and UNIX sockets of streams and of datagrams.
abbrev pub skipped : List (ℕ × ℕ)
skipped = (0x00, 0) ∷ (0x12, 12) ∷ (0x22, 36) ∷ (0x31, 216) ∷ (0x32, 216) ∷ []

-- what a block of a command, and a family and protocol, contains: LOCAL anything; PROXY addresses of TCP over IPv4 or IPv6, or those above
abbrev pub IsContent : (command family : ℕ) → Content → Type 0
IsContent command family Tcp4 = (command ≡ proxy) × (family ≡ 0x11)
IsContent command family Tcp6 = (command ≡ proxy) × (family ≡ 0x21)
IsContent command family (Skipped least) = (command ≡ local) × (least ≡ 0) ⊎ (command ≡ proxy) × Contains skipped (family, least)

abbrev pub least_of : Content → ℕ
least_of Tcp4 = 12
least_of Tcp6 = 36
least_of (Skipped least) = least

-- A body begins with two addresses of this width, the client's and the proxy's, and two bytes each for their ports, the high one first. What
-- comes after them isn't read.
pub record HasAddresses (width : ℕ) (body address : List ℕ) (port : ℕ) : Type 0 where
  pub destination : List ℕ
  pub high : ℕ
  pub low : ℕ
  pub own_port : List ℕ
  pub more : List ℕ
  pub whole : body ≡ address ++ destination ++ high ∷ low ∷ own_port ++ more
  pub address_len : length address ≡ width
  pub destination_len : length destination ≡ width
  pub own_port_len : length own_port ≡ 2
  pub port_is : port ≡ 256 * high + low

-- it gives this client, by IPv4
pub record IsTcp4Client (body : List ℕ) (client : SocketAddr) : Type 0 where
  pub ip : Ipv4Addr
  pub port : ℕ
  pub addresses : HasAddresses 4 body (ipv4_octets ip) port
  pub client_is : IsClientAt (Ip.V4 ip) port client

-- or by IPv6; an IPv4-mapped address is its IPv4 address (RFC 4291, 2.5.5.2)
pub record IsTcp6Client (body : List ℕ) (client : SocketAddr) : Type 0 where
  pub address : List ℕ
  pub ip : Ipv6Addr
  pub unmapped : IpAddr
  pub port : ℕ
  pub addresses : HasAddresses 16 body address port
  pub segments : ipv6_segments ip ≡ segments_of address
  pub canonical : IsCanonicalOf ip unmapped
  pub client_is : IsClientAt unmapped port client

-- what a body gives: the client's address, or none
abbrev pub GivesContent : Content → (body : List ℕ) → Option SocketAddr → Type 0
GivesContent Tcp4 body None = ⊥
GivesContent Tcp4 body (Some client) = IsTcp4Client body client
GivesContent Tcp6 body None = ⊥
GivesContent Tcp6 body (Some client) = IsTcp6Client body client
GivesContent (Skipped least) body None = Unit {0}
GivesContent (Skipped least) body (Some client) = ⊥

-- A block: the signature, version and command, family and protocol, the length of its body in two bytes, the high one first, and the body. It
-- has at most 2,048 bytes.
pub record IsBlock (bytes : List ℕ) (client : Option SocketAddr) : Type 0 where
  pub command : ℕ
  pub family : ℕ
  pub high : ℕ
  pub low : ℕ
  pub body : List ℕ
  pub content : Content
  pub whole : bytes ≡ signature ++ command ∷ family ∷ high ∷ low ∷ body
  pub len : length body ≡ 256 * high + low
  pub most : length bytes ≤ 2048
  pub contains : IsContent command family content
  pub least : least_of content ≤ length body
  pub gives : GivesContent content body client

-- bytes with which a block may begin: with some bytes after them they are one
pub record BeginsBlock (bytes : List ℕ) : Type 0 where
  pub more : List ℕ
  pub client : Option SocketAddr
  pub block : IsBlock (bytes ++ more) client
