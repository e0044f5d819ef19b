-- What a line says, without the CR before its LF, and where the first line ends.
use Rattle.std.proofs.Common.{◌≡◌, ◌≢◌, ◌==◌, ℕ, true, false, List, [], ◌∷◌, ◌++◌, None, Some, refl, sym, ap, subst, ◌∙◌, inl, inr, append_assoc}
use Rattle.std.specs.List.{before_first}
use Rattle.std.proofs.lemmas.Bool.Decides.{eqb_tells}
use Rattle.base_syntax.specs.Cuts.{IsCut, behind_first}
use Rattle.base_syntax.specs.Lines.{HasNoLf, IsFirstLine, ended, said}
use Rattle.base_syntax.proofs.Cuts.{cut_as}
use Rattle.base_syntax.proofs.Lists.{same_head, same_tail, same_cons}

pub said-cr : (front : List ℕ) → said (front ++ 13 ∷ []) ≡ front
said-cr [] = refl
said-cr (b ∷ []) = refl
said-cr (b ∷ c ∷ bs) = ap (λ (l : List ℕ). b ∷ l) (said-cr (c ∷ bs))

pub said-no_cr : (line : List ℕ) → ((front : List ℕ) → line ≢ front ++ 13 ∷ []) → said line ≡ line
said-no_cr [] h = refl
said-no_cr (b ∷ []) h = elim (eqb_tells b 13) [
  | inl same ↦ absurd (h [] (ap (λ (n : ℕ). n ∷ []) same.1))
  | inr other ↦ rw (other.0) refl
]
said-no_cr (b ∷ c ∷ bs) h = ap (λ (l : List ℕ). b ∷ l) (said-no_cr (c ∷ bs) (λ front e. h (b ∷ front) (ap (λ (l : List ℕ). b ∷ l) e)))

-- what stands before the first LF and after it, as a first line
pub line_ended : (bytes line text rest : List ℕ) → line ≡ before_first (λ b. b == 10) bytes → Some rest ≡ behind_first 10 bytes → text ≡ said line → IsFirstLine bytes text rest
line_ended bytes line text rest line_is rest_is text_is =
    let cut : IsCut 10 bytes line (Some rest) = cut_as 10 bytes line (Some rest) line_is rest_is in
    record { line = line; whole = cut.0 ∙ sym (append_assoc line (10 ∷ []) rest); unbroken = cut.1; text_is = text_is }

pub no_line : (bytes : List ℕ) → None ≡ behind_first 10 bytes → HasNoLf bytes
no_line bytes none =
    let cut : IsCut 10 bytes (before_first (λ b. b == 10) bytes) None = cut_as 10 bytes (before_first (λ b. b == 10) bytes) None refl none in
    subst HasNoLf (sym cut.0) cut.1

true_false : true ≡ false → ⊥
true_false e = cc

lf_is_no_lf : (c : ℕ) → c ≡ 10 → (c == 10) ≡ false → ⊥
lf_is_no_lf c e h = true_false (sym (ap (λ (n : ℕ). n == 10) e) ∙ h)

-- a line ends at its first LF
pub same_line : (a x b y : List ℕ) → HasNoLf a → HasNoLf b → ended a ++ x ≡ ended b ++ y → (a ≡ b) × (x ≡ y)
same_line [] x [] y p q e = (refl, same_tail e)
same_line [] x (d ∷ b) y p q e = absurd (lf_is_no_lf d (sym (same_head e)) q.0)
same_line (c ∷ a) x [] y p q e = absurd (lf_is_no_lf c (same_head e) p.0)
same_line (c ∷ a) x (d ∷ b) y p q e = let rest = same_line a x b y p.1 q.1 (same_tail e) in (same_cons (same_head e) rest.0, rest.1)

-- bytes without an LF hold no whole line
pub no_whole_line : (w a x : List ℕ) → HasNoLf w → w ≡ ended a ++ x → ⊥
no_whole_line [] [] x p e = cc
no_whole_line [] (c ∷ a) x p e = cc
no_whole_line (b ∷ w) [] x p e = lf_is_no_lf b (same_head e) p.0
no_whole_line (b ∷ w) (c ∷ a) x p e = no_whole_line w a x p.1 (same_tail e)
