-- The binary digits of numbers.
use Rattle.std.proofs.Common.{◌≡◌, ◌<◌, ◌≤◌, ◌+◌, ◌-◌, ◌*◌, ◌/◌, ◌%◌, ◌^◌, ℕ, zero, suc, [], ◌∷◌, ◌++◌, length, take, replicate, refl, ap, sym, ◌∙◌, arith, append_assoc, append-nil, length-append, inl, inr}
use Rattle.std.proofs.lemmas.List.{same_from_push, take-append-le, take_all}
use Rattle.std.proofs.lemmas.Bool.{cases_lt}
use Rattle.std.proofs.Math.Nat.{div-div-eq-div-mul, pow-suc, mul_assoc, mul_comm}
use Rattle.networks.specs.Bits.{binary}

pub length-binary : (w n : ℕ) → length (binary w n) ≡ w
unfolding binary
length-binary zero n = refl
length-binary (suc w) n = length-append (binary w (n / 2)) (n % 2 ∷ []) ∙ ap (λ k. k + 1) (length-binary w (n / 2)) ∙ omega arith

-- a number below 2 ^ w is given by its w digits
pub binary_unique : (w a b : ℕ) → a < 2 ^ w → b < 2 ^ w → binary w a ≡ binary w b → a ≡ b
unfolding binary
binary_unique zero a b la lb h = omega arith
binary_unique (suc w) a b la lb h =
    let parts = same_from_push (binary w (a / 2)) (binary w (b / 2)) (a % 2) (b % 2) h in
    let same : a / 2 ≡ b / 2 = binary_unique w (a / 2) (b / 2) (omega (arith, pow-suc 2 w)) (omega (arith, pow-suc 2 w)) parts.0 in
    let last : a % 2 ≡ b % 2 = parts.1 in
    omega arith

replicate_push : (k z : ℕ) → replicate k z ++ z ∷ [] ≡ replicate (suc k) z
replicate_push zero z = refl
replicate_push (suc k) z = ap (λ xs. z ∷ xs) (replicate_push k z)

half : (m x : ℕ) → m ≡ x * 2 → (m / 2 ≡ x) × (m % 2 ≡ 0)
half m x e = (omega arith, omega arith)

-- a number without its last k + 1 bits, in two steps
cut_once : (k n : ℕ) → n / 2 ^ suc k * 2 ^ suc k ≡ n / 2 / 2 ^ k * 2 ^ k * 2
cut_once k n =
    let p : 2 ^ suc k ≡ 2 ^ k * 2 = pow-suc 2 k in
    let q : n / 2 / 2 ^ k ≡ n / 2 ^ suc k = div-div-eq-div-mul n 2 (2 ^ k) ∙ ap (λ m. n / m) (mul_comm 2 (2 ^ k) ∙ sym p) in
    ap (λ m. n / 2 ^ suc k * m) p ∙ ap (λ m. m * (2 ^ k * 2)) (sym q) ∙ sym (mul_assoc (n / 2 / 2 ^ k) (2 ^ k) 2)

-- zeros in place of the last k bits of a number
pub binary_cut : (k w n : ℕ) → k ≤ w → binary w (n / 2 ^ k * 2 ^ k) ≡ take (w - k) (binary w n) ++ replicate k 0
unfolding binary
binary_cut zero w n le =
    let all : take (w - 0) (binary w n) ≡ binary w n = take_all (w - 0) (binary w n) (omega (arith, length-binary w n)) in
    let same : n / 2 ^ 0 * 2 ^ 0 ≡ n = omega arith in
    ap (binary w) same ∙ sym (append-nil (take (w - 0) (binary w n)) ∙ all)
binary_cut (suc k) zero n le = absurd (omega arith)
binary_cut (suc k) (suc w) n le =
    let halves = half (n / 2 ^ suc k * 2 ^ suc k) (n / 2 / 2 ^ k * 2 ^ k) (cut_once k n) in
    let start : binary w (n / 2 ^ suc k * 2 ^ suc k / 2) ≡ take (w - k) (binary w (n / 2)) ++ replicate k 0 =
    ap (binary w) halves.0 ∙ binary_cut k w (n / 2) (omega arith) in
    let front : take (w - k) (binary w (n / 2) ++ n % 2 ∷ []) ≡ take (w - k) (binary w (n / 2)) =
    take-append-le (w - k) (binary w (n / 2)) (n % 2 ∷ []) (omega (arith, length-binary w (n / 2))) in
    let places : suc w - suc k ≡ w - k = omega arith in
    rw (start, halves.1, places, front, append_assoc, replicate_push) refl

-- the same by how many bits are kept
pub binary_kept : (w n bits lost m : ℕ) → lost ≡ w - bits → m ≡ n / 2 ^ lost * 2 ^ lost → binary w m ≡ take bits (binary w n) ++ replicate (w - bits) 0
binary_kept w n bits lost m e f =
    let le : w - bits ≤ w = omega arith in
    let cut : binary w (n / 2 ^ (w - bits) * 2 ^ (w - bits)) ≡ take (w - (w - bits)) (binary w n) ++ replicate (w - bits) 0 = binary_cut (w - bits) w n le in
    let same : binary w m ≡ binary w (n / 2 ^ (w - bits) * 2 ^ (w - bits)) = ap (binary w) (f ∙ ap (λ k. n / 2 ^ k * 2 ^ k) e) in
    let front : take (w - (w - bits)) (binary w n) ≡ take bits (binary w n) = elim (cases_lt w bits) [
      | inl less ↦ take_all (w - (w - bits)) (binary w n) (omega (arith, length-binary w n)) ∙ sym (take_all bits (binary w n) (omega (arith, length-binary w n)))
      | inr more ↦ let k : w - (w - bits) ≡ bits = omega arith in ap (λ i. take i (binary w n)) k
    ] in
    same ∙ cut ∙ ap (λ xs. xs ++ replicate (w - bits) 0) front
