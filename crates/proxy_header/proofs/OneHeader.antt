-- Bytes begin with one header at most.
use Rattle.std.proofs.Common.{◌≡◌, ℕ, ◌+◌, ◌*◌, Option, None, Some, List, ◌∷◌, ◌++◌, length, refl, sym, ap, subst, ◌∙◌, inl, inr, arith, append_assoc}
use Rattle.std.specs.declared.net.ip_addr.IpAddr.{IpAddr}
use Rattle.std.specs.declared.net.ip_addr.IpAddr.TheVariants as Ip
use Rattle.std.specs.declared.net.ipv6_addr.Ipv6Addr.{Ipv6Addr}
use Rattle.std.specs.declared.net.socket_addr.SocketAddr.{SocketAddr}
use Rattle.std.specs.Net.Addr.{IsCanonicalOf, segments_of}
use Rattle.std.specs.Net.Grammar.{IsIpv4Text, IsIpv6Text}
use Rattle.std.proofs.NetLemmas.Theorems.{IsIpv4Text_unique, IsIpv6Text_unique}
use Rattle.proxy_header.specs.Blocks.{GivesContent, HasAddresses, IsBlock, signature}
use Rattle.proxy_header.specs.Clients.{IsClientAt}
use Rattle.proxy_header.specs.Fields.{AreAddresses, GivesClient, IsPort}
use Rattle.proxy_header.specs.Headers.{IsHeader}
use Rattle.proxy_header.specs.Lines.{IsLine, crlf, words}
use Rattle.proxy_header.specs.declared.body.Content.{Content}
use Rattle.proxy_header.specs.declared.body.Content.TheVariants as Block
use Rattle.proxy_header.specs.declared.line.Protocol.{Protocol}
use Rattle.proxy_header.specs.declared.line.Protocol.TheVariants as Line
use Rattle.proxy_header.proofs.Breaks.{same_text}
use Rattle.proxy_header.proofs.Blocks.{same_block}
use Rattle.proxy_header.proofs.Clients.{one_canonical, one_client, same_ipv4, same_ipv6}
use Rattle.proxy_header.proofs.Headers.{block_first, line_first}
use Rattle.proxy_header.proofs.Lines.{line_whole, same_line}
use Rattle.proxy_header.proofs.Lists.{same_front}

-- two clients are one, by their addresses and ports
same_client : (p q : IpAddr) (m n : ℕ) (a b : SocketAddr) → p ≡ q → m ≡ n → IsClientAt p m a → IsClientAt q n b → a ≡ b
same_client p q m n a b ips ports f g = one_client q n a b (subst (λ (k : ℕ). IsClientAt q k a) ports (subst (λ (r : IpAddr). IsClientAt r m a) ips f)) g

-- a text has one address and port of its client
one_port : (text : List ℕ) (m n : ℕ) → IsPort text m → IsPort text n → m ≡ n
one_port text m n p q = sym p.number.value ∙ q.number.value

one_address : {A : Type 0} (IsText : List ℕ → A → Type 0) → ((text : List ℕ) (a b : A) → IsText text a → IsText text b → a ≡ b) → (text : List ℕ) (a b : A) (m n : ℕ)
    → AreAddresses IsText text a m → AreAddresses IsText text b n → (a ≡ b) × (m ≡ n)
one_address IsText one text a b m n p q =
    let both = sym p.parts ∙ q.parts in
    let sources : p.source ≡ q.source = cc in
    let ports : p.source_port ≡ q.source_port = cc in (
      one q.source a b (subst (λ (l : List ℕ). IsText l a) sources p.source_is) q.source_is,
      one_port q.source_port m n (subst (λ (l : List ℕ). IsPort l m) ports p.source_port_is) q.source_port_is,
    )

one_line_client : (protocol : Protocol) (text : List ℕ) (a b : Option SocketAddr) → GivesClient protocol text a → GivesClient protocol text b → a ≡ b
one_line_client Line.Unknown text None None p q = refl
one_line_client Line.Unknown text None (Some b) p q = absurd q
one_line_client Line.Unknown text (Some a) b p q = absurd p
one_line_client Line.Tcp4 text None b p q = absurd p
one_line_client Line.Tcp4 text (Some a) None p q = absurd q
one_line_client Line.Tcp4 text (Some a) (Some b) p q =
    let same = one_address IsIpv4Text IsIpv4Text_unique text p.ip q.ip p.port q.port p.addresses q.addresses in
    ap Some (same_client (Ip.V4 p.ip) (Ip.V4 q.ip) p.port q.port a b (ap Ip.V4 same.0) same.1 p.client_is q.client_is)
one_line_client Line.Tcp6 text None b p q = absurd p
one_line_client Line.Tcp6 text (Some a) None p q = absurd q
one_line_client Line.Tcp6 text (Some a) (Some b) p q =
    let same = one_address IsIpv6Text IsIpv6Text_unique text p.ip q.ip p.port q.port p.addresses q.addresses in
    let unmapped = one_canonical q.ip p.unmapped q.unmapped (subst (λ (ip : Ipv6Addr). IsCanonicalOf ip p.unmapped) same.0 p.canonical) q.canonical in
    ap Some (same_client p.unmapped q.unmapped p.port q.port a b unmapped same.1 p.client_is q.client_is)

-- and a body too
one_front : (width : ℕ) (body a b : List ℕ) (m n : ℕ) → HasAddresses width body a m → HasAddresses width body b n → (a ≡ b) × (m ≡ n)
one_front width body a b m n p q =
    let one : body ≡ a ++ (p.destination ++ (p.high ∷ p.low ∷ (p.own_port ++ p.more))) = p.whole ∙ simp append_assoc in
    let other : body ≡ b ++ (q.destination ++ (q.high ∷ q.low ∷ (q.own_port ++ q.more))) = q.whole ∙ simp append_assoc in
    let first = same_front a _ b _ (p.address_len ∙ sym q.address_len) (sym one ∙ other) in
    let second = same_front p.destination _ q.destination _ (p.destination_len ∙ sym q.destination_len) first.1 in
    let ports = second.1 in
    let high : p.high ≡ q.high = cc in
    let low : p.low ≡ q.low = cc in
    (first.0, p.port_is ∙ ap (λ (k : ℕ). 256 * k + p.low) high ∙ ap (λ (k : ℕ). 256 * q.high + k) low ∙ sym q.port_is)

one_block_client : (content : Content) (body : List ℕ) (a b : Option SocketAddr) → GivesContent content body a → GivesContent content body b → a ≡ b
one_block_client (Block.Skipped least) body None None p q = refl
one_block_client (Block.Skipped least) body None (Some b) p q = absurd q
one_block_client (Block.Skipped least) body (Some a) b p q = absurd p
one_block_client Block.Tcp4 body None b p q = absurd p
one_block_client Block.Tcp4 body (Some a) None p q = absurd q
one_block_client Block.Tcp4 body (Some a) (Some b) p q =
    let same = one_front 4 body _ _ p.port q.port p.addresses q.addresses in
    ap Some (same_client (Ip.V4 p.ip) (Ip.V4 q.ip) p.port q.port a b (ap Ip.V4 (same_ipv4 p.ip q.ip same.0)) same.1 p.client_is q.client_is)
one_block_client Block.Tcp6 body None b p q = absurd p
one_block_client Block.Tcp6 body (Some a) None p q = absurd q
one_block_client Block.Tcp6 body (Some a) (Some b) p q =
    let same = one_front 16 body p.address q.address p.port q.port p.addresses q.addresses in
    let ips = same_ipv6 p.ip q.ip (p.segments ∙ ap segments_of same.0 ∙ sym q.segments) in
    let unmapped = one_canonical q.ip p.unmapped q.unmapped (subst (λ (ip : Ipv6Addr). IsCanonicalOf ip p.unmapped) ips p.canonical) q.canonical in
    ap Some (same_client p.unmapped q.unmapped p.port q.port a b unmapped same.1 p.client_is q.client_is)

one_line : (one other after after' : List ℕ) (a b : Option SocketAddr) → IsLine one a → IsLine other b → one ++ after ≡ other ++ after' → (one ≡ other) × (a ≡ b)
one_line one other after after' a b p q e =
    let same = same_line p.protocol (p.text ++ 13 ∷ 10 ∷ after) other after' b (sym (line_whole one after a p) ∙ e) q in
    let text : q.text ≡ p.text = same_text q.text p.text after' after q.unbroken p.unbroken (sym same.rest_is) in
    let gives : GivesClient p.protocol p.text b = subst (λ (l : List ℕ). GivesClient p.protocol l b) text (subst (λ (r : Protocol). GivesClient r q.text b) same.protocol_is q.gives) in (
      p.whole ∙ ap (λ (r : Protocol). words r ++ p.text ++ crlf) (sym same.protocol_is) ∙ ap (λ (l : List ℕ). words q.protocol ++ l ++ crlf) (sym text) ∙ sym q.whole,
      one_line_client p.protocol p.text a b p.gives gives,
    )

one_block : (one other after after' : List ℕ) (a b : Option SocketAddr) → IsBlock one a → IsBlock other b → one ++ after ≡ other ++ after' → (one ≡ other) × (a ≡ b)
one_block one other after after' a b p q e =
    let start : signature ++ p.command ∷ p.family ∷ p.high ∷ p.low ∷ (p.body ++ after) ≡ other ++ after' = sym (ap (λ (l : List ℕ). l ++ after) p.whole) ∙ e in
    let same = same_block p.command p.family p.high p.low (p.body ++ after) other after' p.content b p.contains start q in
    let body = same_front p.body after q.body after' (p.len ∙ sym same.len) same.body_is in
    let gives : GivesContent p.content p.body b = subst (λ (l : List ℕ). GivesContent p.content l b) (sym body.0) (subst (λ (r : Content). GivesContent r q.body b) same.content_is q.gives) in
    let fronts = same_front one after other after' (omega (arith, ap length p.whole, ap length q.whole, ap length body.0)) e in
    (fronts.0, one_block_client p.content p.body a b p.gives gives)

pub one_header : (one other after after' : List ℕ) (a b : Option SocketAddr) → IsHeader one a → IsHeader other b → one ++ after ≡ other ++ after' → (one ≡ other) × (a ≡ b)
one_header one other after after' a b p q e = elim p [
  | inl f ↦ elim q [
    | inl g ↦ one_line one other after after' a b f g e
    | inr g ↦ absurd (omega (arith, line_first (one ++ after) one after a refl f, block_first (one ++ after) other after' b e g))
  ]
  | inr f ↦ elim q [
    | inl g ↦ absurd (omega (arith, block_first (one ++ after) one after a refl f, line_first (one ++ after) other after' b e g))
    | inr g ↦ one_block one other after after' a b f g e
  ]
]
