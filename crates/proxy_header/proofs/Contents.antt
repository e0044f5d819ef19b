-- What a block contains.
use Rattle.std.proofs.Common.{◌≡◌, ℕ, zero, suc, ◌+◌, ◌*◌, ◌<◌, ◌≤◌, Option, None, Some, List, length, take, drop, get_or, inl, inr, refl, sym, ap, subst, ◌∙◌, arith}
use Rattle.std.specs.Prelude.{◌==◌, if◌then◌else◌, slice_index_or}
use Rattle.std.specs.List.{Contains}
use Rattle.std.proofs.lemmas.Bool.Decides.{eqb_tells}
use Rattle.std.specs.declared.net.ip_addr.IpAddr.TheVariants as Ip
use Rattle.std.specs.declared.net.ipv4_addr.Ipv4Addr.{Ipv4Addr}
use Rattle.std.specs.declared.net.ipv6_addr.Ipv6Addr.{Ipv6Addr}
use Rattle.std.specs.declared.net.socket_addr.SocketAddr.{SocketAddr}
use Rattle.std.specs.Net.Addr.{segments_of}
use Rattle.proxy_header.specs.Blocks.{GivesContent, IsContent, least_of, skipped}
use Rattle.proxy_header.specs.declared.body.Content.{Content}
use Rattle.proxy_header.specs.declared.body.Content.TheVariants.{Skipped, Tcp4, Tcp6}
use Rattle.proxy_header.proofs.Bodies.{has_addresses}
use Rattle.proxy_header.proofs.Clients.{some_client, some_canonical}

-- the content of a family after the command PROXY
abbrev of_family : ℕ → Option Content
of_family family =
    if family == 0x00 then Some (Skipped 0)
    else if family == 0x11 then Some Tcp4
    else if family == 0x21 then Some Tcp6
    else if family == 0x12 then Some (Skipped 12)
    else if family == 0x22 then Some (Skipped 36)
    else if family == 0x31 then Some (Skipped 216)
    else if family == 0x32 then Some (Skipped 216)
    else None

-- the content of a command and a family
abbrev of_both : (command family : ℕ) → Option Content
of_both command family = if command == 0x20 then Some (Skipped 0) else of_family family

-- a family that is skipped, and the least length of its addresses
abbrev IsSkipped : ℕ × ℕ → Type 0
IsSkipped pair = (of_family pair.0 ≡ Some (Skipped pair.1)) × (pair.1 ≤ 240)

listed : (k family least : ℕ) → k < length skipped → slice_index_or skipped k (family, least) ≡ (family, least) → IsSkipped (family, least)
listed zero family least below e = subst IsSkipped e (refl, omega arith)
listed (suc zero) family least below e = subst IsSkipped e (refl, omega arith)
listed (suc (suc zero)) family least below e = subst IsSkipped e (refl, omega arith)
listed (suc (suc (suc zero))) family least below e = subst IsSkipped e (refl, omega arith)
listed (suc (suc (suc (suc zero)))) family least below e = subst IsSkipped e (refl, omega arith)
listed (suc (suc (suc (suc (suc k))))) family least below e = absurd (omega arith)

content_is : (command family : ℕ) (content : Content) → IsContent command family content → of_both command family ≡ Some content
content_is command family Tcp4 h = rw (h.0, h.1) refl
content_is command family Tcp6 h = rw (h.0, h.1) refl
content_is command family (Skipped least) h = elim h [
  | inl any ↦ rw (any.0, any.1) refl
  | inr kept ↦ rw kept.0 (listed kept.1.0 family least kept.1.1 kept.1.2).0
]

-- a command and a family have one content at most
pub one_content : (command family : ℕ) (a b : Content) → IsContent command family a → IsContent command family b → a ≡ b
one_content command family a b p q = let same = sym (content_is command family a p) ∙ content_is command family b q in cc

-- a body of 240 bytes is long enough for each
pub least_fits : (command family : ℕ) (content : Content) → IsContent command family content → least_of content ≤ 240
least_fits command family Tcp4 h = omega arith
least_fits command family Tcp6 h = omega arith
least_fits command family (Skipped least) h = elim h [
  | inl any ↦ omega (arith, any.1)
  | inr kept ↦ (listed kept.1.0 family least kept.1.1 kept.1.2).1
]

-- both families of UNIX sockets are skipped
pub unix : (family : ℕ) → 0x31 ≤ family → family < 0x33 → Contains skipped (family, 216)
unix family low high = elim (eqb_tells family 0x31) [
  | inl same ↦ (3, omega arith, ap (λ (f : ℕ). (f, 216)) (sym same.1))
  | inr other ↦ let same : 0x32 ≡ family = omega (arith, other.1) in (4, omega arith, ap (λ (f : ℕ). (f, 216)) same)
]

-- a body that is long enough gives a client, or none
pub gives_some : (content : Content) (body : List ℕ) → least_of content ≤ length body → (client : Option SocketAddr) × GivesContent content body client
gives_some Tcp4 body fits =
    let ip : Ipv4Addr = record { octets = take 4 body } in
    let port : ℕ = 256 * get_or (drop 4 body) 4 0 + get_or (drop 4 body) 5 0 in
    let client = some_client (Ip.V4 ip) port in
    (Some client.0, record { ip = ip; port = port; addresses = has_addresses 4 body _ port (omega arith) refl refl; client_is = client.1 })
gives_some Tcp6 body fits =
    let ip : Ipv6Addr = record { segments = segments_of (take 16 body) } in
    let port : ℕ = 256 * get_or (drop 16 body) 16 0 + get_or (drop 16 body) 17 0 in
    let unmapped = some_canonical ip in
    let client = some_client unmapped.0 port in (
      Some client.0,
      record { address = take 16 body; ip = ip; unmapped = unmapped.0; port = port; addresses = has_addresses 16 body _ port (omega arith) refl refl; segments = refl; canonical = unmapped.1; client_is = client.1 },
    )
gives_some (Skipped least) body fits = (None, tt)
