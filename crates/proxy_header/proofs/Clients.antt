-- For each IP address and port there is a client's address, and one only.
use Rattle.std.proofs.Common.{◌≡◌, ℕ, Bool, true, false, List, [], ◌∷◌, take, refl, ap, sym, ◌∙◌}
use Rattle.std.specs.Str.{bytes_eq}
use Rattle.std.specs.declared.net.ip_addr.IpAddr.{IpAddr}
use Rattle.std.specs.declared.net.ip_addr.IpAddr.TheVariants as Ip
use Rattle.std.specs.declared.net.ipv4_addr.Ipv4Addr.{Ipv4Addr}
use Rattle.std.specs.declared.net.ipv6_addr.Ipv6Addr.{Ipv6Addr}
use Rattle.std.specs.declared.net.socket_addr.SocketAddrV4.{SocketAddrV4}
use Rattle.std.specs.declared.net.socket_addr.SocketAddrV6.{SocketAddrV6}
use Rattle.std.specs.declared.net.socket_addr.SocketAddr.{SocketAddr}
use Rattle.std.specs.declared.net.socket_addr.SocketAddr.TheVariants as Socket
use Rattle.std.specs.Net.Addr.{IsCanonicalOf, ipv6_segments, low_octets}
use Rattle.std.proofs.lemmas.Bool.{false≢true}
use Rattle.std.proofs.lemmas.Slice.Eq.{bytes_eq-Decides}
use Rattle.proxy_header.specs.Clients.{IsClientAt}

pub some_client : (ip : IpAddr) (port : ℕ) → (client : SocketAddr) × IsClientAt ip port client
some_client (Ip.V4 ip) port = (Socket.V4 (record { ip = ip; port = port }), record { ip_is = refl; plain = (refl, refl, refl) })
some_client (Ip.V6 ip) port = (Socket.V6 (record { ip = ip; port = port; flowinfo = 0; scope_id = 0 }), record { ip_is = refl; plain = (refl, refl, refl) })

-- each IPv6 address is IPv4-mapped, or stands for itself
pub some_canonical : (ip : Ipv6Addr) → (unmapped : IpAddr) × IsCanonicalOf ip unmapped
some_canonical ip = go (bytes_eq front mapped) refl
  where
    front : List ℕ
    front = take 6 (ipv6_segments ip)

    mapped : List ℕ
    mapped = 0 ∷ 0 ∷ 0 ∷ 0 ∷ 0 ∷ 0xffff ∷ []

    go : (is : Bool) → bytes_eq front mapped ≡ is → (unmapped : IpAddr) × IsCanonicalOf ip unmapped
    go true e = (Ip.V4 (record { octets = low_octets ip }), ((bytes_eq-Decides front mapped).0 e, refl))
    go false e = (Ip.V6 ip, (λ is. false≢true (sym e ∙ (bytes_eq-Decides front mapped).1 is), refl))

-- two clients at one IP address and port are one
same_v4 : (a b : SocketAddrV4) → a.ip ≡ b.ip → a.port ≡ b.port → a ≡ b
same_v4 a b ip port = rw (ip, port) refl

same_v6 : (a b : SocketAddrV6) → a.ip ≡ b.ip → a.port ≡ b.port → a.flowinfo ≡ b.flowinfo → a.scope_id ≡ b.scope_id → a ≡ b
same_v6 a b ip port flow scope = rw (ip, port, flow, scope) refl

pub one_client : (ip : IpAddr) (port : ℕ) (a b : SocketAddr) → IsClientAt ip port a → IsClientAt ip port b → a ≡ b
one_client ip port (Socket.V4 a) (Socket.V4 b) p q =
    let ips : a.ip ≡ b.ip = let same = p.ip_is ∙ sym q.ip_is in cc in
    ap Socket.V4 (same_v4 a b ips (p.plain.0 ∙ sym q.plain.0))
one_client ip port (Socket.V6 a) (Socket.V6 b) p q =
    let ips : a.ip ≡ b.ip = let same = p.ip_is ∙ sym q.ip_is in cc in
    ap Socket.V6 (same_v6 a b ips (p.plain.0 ∙ sym q.plain.0) (p.plain.1 ∙ sym q.plain.1) (p.plain.2 ∙ sym q.plain.2))
one_client ip port (Socket.V4 a) (Socket.V6 b) p q = let same = p.ip_is ∙ sym q.ip_is in absurd (cc)
one_client ip port (Socket.V6 a) (Socket.V4 b) p q = let same = p.ip_is ∙ sym q.ip_is in absurd (cc)

pub same_ipv4 : (a b : Ipv4Addr) → a.octets ≡ b.octets → a ≡ b
same_ipv4 a b octets = rw octets refl

pub same_ipv6 : (a b : Ipv6Addr) → a.segments ≡ b.segments → a ≡ b
same_ipv6 a b segments = rw segments refl

-- an address stands for one
pub one_canonical : (ip : Ipv6Addr) (a b : IpAddr) → IsCanonicalOf ip a → IsCanonicalOf ip b → a ≡ b
one_canonical ip (Ip.V4 a) (Ip.V4 b) p q = ap Ip.V4 (same_ipv4 a b (p.1 ∙ sym q.1))
one_canonical ip (Ip.V6 a) (Ip.V6 b) p q = ap Ip.V6 (p.1 ∙ sym q.1)
one_canonical ip (Ip.V4 a) (Ip.V6 b) p q = absurd (q.0 p.0)
one_canonical ip (Ip.V6 a) (Ip.V4 b) p q = absurd (p.0 q.0)
