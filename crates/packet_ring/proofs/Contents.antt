-- A unit's contents are its cells and then its bytes.
use Rattle.std.proofs.Common.{◌≡◌, ℕ, zero, suc, ◌+◌, ◌*◌, ◌<◌, suc-mul, zero-mul, ◌≤◌, List, [], ◌∷◌, ◌++◌, length, take, drop, set, sym, refl, ap, ◌∙◌, arith}

-- a cell is set among the cells alone
pub take_set : (w : ℕ) (x : List ℕ) (j m : ℕ) → set (take w x) j m ≡ take w (set x j m)
take_set zero x j m = refl
take_set (suc w) [] j m = refl
take_set (suc w) (y ∷ x) zero m = refl
take_set (suc w) (y ∷ x) (suc j) m = ap (λ (xs : List ℕ). y ∷ xs) (take_set w x j m)

pub drop_set : (w : ℕ) (x : List ℕ) (j m : ℕ) → j < w → drop w x ≡ drop w (set x j m)
drop_set zero x j m l = absurd (omega arith)
drop_set (suc w) [] j m l = refl
drop_set (suc w) (y ∷ x) zero m l = refl
drop_set (suc w) (y ∷ x) (suc j) m l = drop_set w x j m (omega arith)

-- the contents end with one byte more
pub take_grown : (w : ℕ) (x : List ℕ) (j m : ℕ) → w + j ≤ length x → take w x ≡ take w (take (w + j) x ++ m ∷ [])
take_grown zero x j m le = refl
take_grown (suc w) [] j m le = absurd (omega arith)
take_grown (suc w) (y ∷ x) j m le = let e : suc w + j ≡ suc (w + j) = omega arith in ap (λ (xs : List ℕ). y ∷ xs) (take_grown w x j m (omega arith)) ∙ ap (λ (k : ℕ). take (suc w) (take k (y ∷ x) ++ m ∷ [])) (sym e)

pub drop_grown : (w : ℕ) (x : List ℕ) (j m : ℕ) → w + j ≤ length x → take j (drop w x) ++ m ∷ [] ≡ drop w (take (w + j) x ++ m ∷ [])
drop_grown zero x j m le = let e : j ≡ 0 + j = omega arith in ap (λ (k : ℕ). take k x ++ m ∷ []) e
drop_grown (suc w) [] j m le = absurd (omega arith)
drop_grown (suc w) (y ∷ x) j m le = let e : suc w + j ≡ suc (w + j) = omega arith in drop_grown w x j m (omega arith) ∙ ap (λ (k : ℕ). drop (suc w) (take k (y ∷ x) ++ m ∷ [])) (sym e)

-- how many bytes the units are
pub widths : (n w : ℕ) → n * (w * 8 + 8) ≡ n * (w + 1) * 8
widths zero w = let a = zero-mul (w * 8 + 8) in let b = zero-mul (w + 1) in omega arith
widths (suc n) w = let a = suc-mul n (w * 8 + 8) in let b = suc-mul n (w + 1) in let h = widths n w in omega arith
