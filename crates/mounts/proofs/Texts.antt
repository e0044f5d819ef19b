-- Texts cut at bytes.
use Rattle.std.proofs.Common.{◌≡◌, ℕ, ◌+◌, Bool, true, false, not, ◌||◌, cond, List, [], ◌∷◌, take, refl, sym, ap, ◌∙◌, suc, arith}
use Rattle.std.specs.List.{before_first, position_or_len}

-- what stands before the first byte that passes, by the first byte
pub before_first-cons : (p : ℕ → Bool) (b : ℕ) (bs : List ℕ) → before_first p (b ∷ bs) ≡ cond (p b) [] (b ∷ before_first p bs)
before_first-cons p b bs =
    elim (p b) as (λ v. take (cond (not v) (1 + position_or_len p bs) 0) (b ∷ bs) ≡ cond v [] (b ∷ before_first p bs)) [
      | true ↦ refl
      | false ↦ let one : 1 + position_or_len p bs ≡ suc (position_or_len p bs) = omega arith in ap (λ n. take n (b ∷ bs)) one
    ]

before_first-cond : (q : ℕ → Bool) (v : Bool) (b : ℕ) (bs : List ℕ) → before_first q (cond v [] (b ∷ bs)) ≡ cond v [] (cond (q b) [] (b ∷ before_first q bs))
before_first-cond q true b bs = refl
before_first-cond q false b bs = before_first-cons q b bs

cond-either : (v w : Bool) (xs : List ℕ) → cond v [] (cond w [] xs) ≡ cond (w || v) [] xs
cond-either true true xs = refl
cond-either true false xs = refl
cond-either false true xs = refl
cond-either false false xs = refl

-- cut at the first byte that passes one test, and then at the first that passes another
pub before_first-either : (p q : ℕ → Bool) (text : List ℕ) → before_first q (before_first p text) ≡ before_first (λ b. q b || p b) text
before_first-either p q [] = refl
before_first-either p q (b ∷ bs) =
    ap (before_first q) (before_first-cons p b bs) ∙ before_first-cond q (p b) b (before_first p bs)
    ∙ ap (λ rest. cond (p b) [] (cond (q b) [] (b ∷ rest))) (before_first-either p q bs)
    ∙ cond-either (p b) (q b) (b ∷ before_first (λ c. q c || p c) bs)
    ∙ sym (before_first-cons (λ c. q c || p c) b bs)
