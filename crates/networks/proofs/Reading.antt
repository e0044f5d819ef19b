-- A text writes one network at most, and one that is refused writes none.
use Rattle.std.proofs.Common.{◌≡◌, ◌<◌, ℕ, Option, None, Some, List, true, [], ◌∷◌, ◌++◌, length, length-append, refl, inl, inr, ap, sym, subst, ◌∙◌, arith, codes, decimal}
use Rattle.std.specs.declared.net.ip_addr.IpAddr.{IpAddr}
use Rattle.std.specs.declared.net.ip_addr.IpAddr.TheVariants as Ip
use Rattle.std.specs.Net.Grammar.{IsDotted, IsGroups, IsIpText}
use Rattle.std.proofs.NetLemmas.Theorems.{IsIpText_unique}
use Rattle.networks.specs.declared.network.Network.{Network}
use Rattle.networks.specs.declared.fault.NetworkFault.{NetworkFault}
use Rattle.networks.specs.declared.fault.NetworkFault.TheVariants.{Empty, BadText, Mapped, TooManyBits, HostBits, OutOfMemory}
use Rattle.networks.specs.Addresses.{address_of, width_of, HasNoHostBits}
use Rattle.networks.specs.Reading.{AreBits, IsFaulty, IsMapped, IsWrittenAs, Spells, bits_or_all}

number_unique : (after : Option (List ℕ)) (a b : Option ℕ) → AreBits after a → AreBits after b → a ≡ b
number_unique None a b h k = h ∙ sym k
number_unique (Some digits) None b h k = absurd h
number_unique (Some digits) (Some m) None h k = absurd k
number_unique (Some digits) (Some m) (Some n) h k = sym h ∙ k

ip_unique : (text : List ℕ) (a b : IpAddr) (m n : Option ℕ) → IsWrittenAs text a m → IsWrittenAs text b n → a ≡ b
ip_unique text a b m n h k = IsIpText_unique _ a b h.address k.address

bits_unique : (text : List ℕ) (a b : IpAddr) (m n : Option ℕ) → IsWrittenAs text a m → IsWrittenAs text b n → bits_or_all a m ≡ bits_or_all b n
bits_unique text a b m n h k =
    ap (λ ip. bits_or_all ip m) (ip_unique text a b m n h k) ∙ ap (λ number. bits_or_all b number) (number_unique _ m n h.number k.number)

pub one_address : (text : List ℕ) (a b : Network) → Spells text a → Spells text b → a.address ≡ b.address
one_address text a b h k = h.address ∙ ap address_of (ip_unique text h.ip k.ip h.number k.number h.written k.written) ∙ sym k.address

pub one_bits : (text : List ℕ) (a b : Network) → Spells text a → Spells text b → a.bits ≡ b.bits
one_bits text a b h k = h.bits ∙ bits_unique text h.ip k.ip h.number k.number h.written k.written ∙ sym k.bits

-- nothing is no address
no_dotted : (text octets : List ℕ) → [] ≡ text → IsDotted text octets → ⊥
no_dotted text octets none h =
    let front : List ℕ = decimal h.a ++ codes "." ++ decimal h.b ++ codes "." ++ decimal h.c in
    let size : 0 ≡ length (front ++ codes "." ++ decimal h.d) = ap length (none ∙ h.spelled) in
    absurd (omega (arith, size, length-append (front ++ codes ".") (decimal h.d), length-append front (codes ".")))

no_groups : (segments : List ℕ) → IsGroups true [] segments → length segments ≡ 8 → ⊥
no_groups [] h l = absurd (omega arith)
no_groups (s ∷ segments) h l = elim h [
  | inl g ↦
      let none : 0 ≡ length (g.0 ++ g.1) = ap length g.2 in
      absurd (omega (arith, none, length-append g.0 g.1, g.3.0.0.0))
  | inr g ↦ no_dotted g.0 g.1 g.3 g.4
]

no_ip : (ip : IpAddr) → IsIpText [] ip → ⊥
no_ip (Ip.V4 a) h = no_dotted [] _ refl h
no_ip (Ip.V6 a) h = elim h [
  | inl g ↦ no_groups _ g.0 g.1
  | inr g ↦
      let none : 0 ≡ length (g.head_text ++ codes "::" ++ g.tail_text) = ap length g.spelled in
      absurd (omega (arith, none, length-append (g.head_text ++ codes "::") g.tail_text, length-append g.head_text (codes "::")))
]

-- a network has the bits that its text writes
same_bits : (text : List ℕ) (network : Network) (ip : IpAddr) (number : Option ℕ) → Spells text network → IsWrittenAs text ip number
    → (network.address ≡ address_of ip) × (network.bits ≡ bits_or_all ip number)
same_bits text network ip number h w = (
  h.address ∙ ap address_of (ip_unique text h.ip ip h.number number h.written w),
  h.bits ∙ bits_unique text h.ip ip h.number number h.written w,
)

pub never_both : (text : List ℕ) (network : Network) (fault : NetworkFault) → Spells text network → IsFaulty text fault → ⊥
never_both text network Empty h bad = let w = rw bad at h.written.address in no_ip h.ip w
never_both text network BadText h bad = bad.1 h.ip h.number h.written
never_both text network Mapped h bad = h.unmapped (subst IsMapped (ip_unique text bad.0 h.ip bad.1 h.number bad.2 h.written) bad.3)
never_both text network TooManyBits h bad =
    let same = same_bits text network bad.ip bad.number h bad.written in
    let more : width_of (address_of bad.ip) < bits_or_all bad.ip bad.number = bad.refused in
    let width : width_of network.address ≡ width_of (address_of bad.ip) = ap width_of same.0 in
    absurd (omega (arith, more, width, same.1, network.fits))
never_both text network HostBits h bad =
    let same = same_bits text network bad.ip bad.number h bad.written in
    bad.refused.1 (subst (λ a. HasNoHostBits a (bits_or_all bad.ip bad.number)) same.0 (subst (λ n. HasNoHostBits network.address n) same.1 network.no_host_bits))
never_both text network OutOfMemory h bad = bad
