-- A free pair among few used channels.
use Rattle.std.proofs.Common.{◌≡◌, ◌<◌, ◌≤◌, ◌+◌, ◌*◌, ◌%◌, ℕ, zero, suc, nat_lt, cond, ◌⊎◌, inl, inr, List, [], ◌∷◌, length, get_or, subst, sym, arith}
use Rattle.transport_header.specs.Chosen.{IsFreeAt}
use Rattle.std.specs.List.{Contains, count_by}
use Rattle.std.proofs.lemmas.Bool.Decides.{nat_tests}
use Rattle.std.proofs.lemmas.List.Sums.{sum_by-cons, sum_by-le-sum_by}

-- how much a channel adds to the count below n
abbrev one_below : ℕ → ℕ → ℕ
one_below n c = cond (nat_lt c n) 1 0

more : (n c : ℕ) → one_below n c ≤ one_below (n + 2) c
more n c = grind (arith, nat_tests)

gains : (n c : ℕ) → n ≤ c → c < n + 2 → one_below n c + 1 ≤ one_below (n + 2) c
gains n c low high = grind (arith, nat_tests)

-- A channel of the pair at n is counted below n + 2, and not below n.
spoiled : (used : List ℕ) (n c k : ℕ) → k < length used → get_or used k c ≡ c → n ≤ c → c < n + 2 → count_by (λ x. nat_lt x n) used + 1 ≤ count_by (λ x. nat_lt x (n + 2)) used
spoiled [] n c k h e low high = absurd (omega arith)
spoiled (x ∷ xs) n c zero h e low high =
    let first : one_below n x + 1 ≤ one_below (n + 2) x = gains n x (omega arith) (omega arith) in
    omega (arith, first, sum_by-cons (one_below n) x xs, sum_by-cons (one_below (n + 2)) x xs, sum_by-le-sum_by (one_below n) (one_below (n + 2)) xs (more n))
spoiled (x ∷ xs) n c (suc k) h e low high =
    omega (arith, more n x, sum_by-cons (one_below n) x xs, sum_by-cons (one_below (n + 2)) x xs, spoiled xs n c k (omega arith) e low high)

counted : (used : List ℕ) (n c : ℕ) → Contains used c → n ≤ c → c < n + 2 → count_by (λ x. nat_lt x n) used + 1 ≤ count_by (λ x. nat_lt x (n + 2)) used
counted used n c at low high = spoiled used n c at.0 at.1 at.2 low high

-- what is kept past a pair that isn't free: where a free pair can stand, and how many channels are below
pub record Spoiled (used : List ℕ) (half : ℕ) : Type 0 where
  pub passed : (e : ℕ) → IsFreeAt used e → 2 * half ≤ e
  pub counted : half ≤ count_by (λ c. nat_lt c (2 * half)) used

not_here : (used : List ℕ) (n e : ℕ) → IsFreeAt used e → e ≡ n → Contains used n ⊎ Contains used (n + 1) → ⊥
not_here used n e free same (inl at) = free.1.0 (rw same at)
not_here used n e free same (inr at) = free.1.1 (rw same at)

one_more : (used : List ℕ) (n : ℕ) → Contains used n ⊎ Contains used (n + 1) → count_by (λ x. nat_lt x n) used + 1 ≤ count_by (λ x. nat_lt x (n + 2)) used
one_more used n (inl at) = counted used n n at (omega arith) (omega arith)
one_more used n (inr at) = counted used n (n + 1) at (omega arith) (omega arith)

next_even : (n e : ℕ) → e % 2 ≡ 0 → 2 * n ≤ e → (e ≡ 2 * n → ⊥) → 2 * (n + 1) ≤ e
next_even n e even low other = omega arith

pub spoils : (used : List ℕ) (half n : ℕ) → Spoiled used half → n ≡ 2 * half → Contains used n ⊎ Contains used (n + 1) → Spoiled used (half + 1)
spoils used half n before same taken = record {
  passed = λ e free. next_even half e free.0 (before.passed e free) (λ here. not_here used n e free (omega arith) taken);
  counted =
      let Below : ℕ → ℕ → Type 0 = λ least m. least ≤ count_by (λ c. nat_lt c m) used in
      let at_n : half ≤ count_by (λ c. nat_lt c n) used = let P : ℕ → Type 0 = λ m. Below half m in subst P (sym same) before.counted in
      let past : half + 1 ≤ count_by (λ c. nat_lt c (n + 2)) used = omega (arith, at_n, one_more used n taken) in
      let Q : ℕ → Type 0 = λ m. Below (half + 1) m in
      subst Q (omega arith) past;
}
