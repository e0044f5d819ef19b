-- Addresses by their bits.
use Rattle.std.proofs.Common.{◌≡◌, ◌≤◌, ◌-◌, ℕ, ◌++◌, length, take, drop, replicate, ap, sym, ◌∙◌, arith}
use Rattle.std.proofs.lemmas.List.{append_cancel_left, take-append-le, take-append-drop, length-take-le, take_all}
use Rattle.networks.specs.declared.address.Address.{Address}
use Rattle.networks.specs.declared.address.Address.TheVariants.{V4, V6}
use Rattle.networks.specs.Addresses.{bits_of, width_of, FitsFamily, HasNoHostBits}
use Rattle.networks.proofs.Binary.{length-binary, binary_unique}

pub length-bits_of : (a : Address) → length (bits_of a) ≡ width_of a
length-bits_of (V4 n) = length-binary 32 n
length-bits_of (V6 n) = length-binary 128 n

-- an address is given by its bits
pub address_unique : (a b : Address) → FitsFamily a → FitsFamily b → width_of a ≡ width_of b → bits_of a ≡ bits_of b → a ≡ b
address_unique (V4 m) (V4 n) la lb w h = ap V4 (binary_unique 32 m n la lb h)
address_unique (V6 m) (V6 n) la lb w h = ap V6 (binary_unique 128 m n la lb h)
address_unique (V4 m) (V6 n) la lb w h = absurd (omega arith)
address_unique (V6 m) (V4 n) la lb w h = absurd (omega arith)

-- The address is another one with zeros after its first bits.
pub record IsCutOf (address cut : Address) (bits : ℕ) : Type 0 where
  pub width : width_of cut ≡ width_of address
  pub fits : FitsFamily cut
  pub bits_are : bits_of cut ≡ take bits (bits_of address) ++ replicate (width_of address - bits) 0

-- what is cut begins as the address did
pub take-cut : (address cut : Address) (bits : ℕ) → IsCutOf address cut bits → bits ≤ width_of address → take bits (bits_of cut) ≡ take bits (bits_of address)
take-cut address cut bits h le =
    let long : length (take bits (bits_of address)) ≡ bits = length-take-le bits (bits_of address) (omega (arith, length-bits_of address)) in
    let front = take-append-le bits (take bits (bits_of address)) (replicate (width_of address - bits) 0) (omega (arith, long)) in
    ap (take bits) h.bits_are ∙ front ∙ take_all bits (take bits (bits_of address)) (omega (arith, long))

-- an address that begins as this one, and has zeros after that, is what is cut
pub cut_is : (address cut net : Address) (bits : ℕ) → IsCutOf address cut bits → FitsFamily net → HasNoHostBits net bits
    → width_of address ≡ width_of net → take bits (bits_of address) ≡ take bits (bits_of net) → cut ≡ net
cut_is address cut net bits h fits none w same =
    let zeros : replicate (width_of address - bits) 0 ≡ drop bits (bits_of net) = sym (none ∙ ap (λ k. replicate (k - bits) 0) (sym w)) in
    let all : bits_of cut ≡ bits_of net =
    h.bits_are ∙ ap (λ xs. xs ++ replicate (width_of address - bits) 0) same ∙ ap (λ xs. take bits (bits_of net) ++ xs) zeros ∙ take-append-drop bits (bits_of net) in
    address_unique cut net h.fits fits (h.width ∙ w) all

-- an address that is its own cut has no host bits
pub own_cut : (address cut : Address) (bits : ℕ) → IsCutOf address cut bits → cut ≡ address → HasNoHostBits address bits
own_cut address cut bits h e =
    append_cancel_left (take bits (bits_of address)) (drop bits (bits_of address)) (replicate (width_of address - bits) 0)
    (take-append-drop bits (bits_of address) ∙ ap bits_of (sym e) ∙ h.bits_are)
