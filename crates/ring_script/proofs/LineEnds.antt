-- The first line of an input, which an LF ends or the text does.
use Rattle.std.proofs.Common.{◌≡◌, ◌==◌, ℕ, ◌<◌, true, List, [], ◌∷◌, None, Some, length, refl, subst, inl, inr, arith}
use Rattle.std.specs.List.{before_first}
use Rattle.base_syntax.specs.Cuts.{behind_first}
use Rattle.base_syntax.specs.Lines.{has_bytes}
use Rattle.base_syntax.proofs.Cuts.{cut_as}
use Rattle.ring_script.specs.Lines.{IsFirstLine}

pub line_ended : (text line rest : List ℕ) → line ≡ before_first (λ b. b == 10) text → Some rest ≡ behind_first 10 text → IsFirstLine text line rest
line_ended text line rest line_is rest_is =
    let cut = cut_as 10 text line (Some rest) line_is rest_is in
    record { unbroken = cut.1; whole = inl cut.0 }

has_some : (text : List ℕ) → 0 < length text → has_bytes text ≡ true
has_some [] h = absurd (omega arith)
has_some (b ∷ bs) h = refl

pub line_unended : (text line rest : List ℕ) → 0 < length text → line ≡ before_first (λ b. b == 10) text → None ≡ behind_first 10 text → rest ≡ [] → IsFirstLine text line rest
line_unended text line rest some line_is rest_is none =
    let cut = cut_as 10 text line None line_is rest_is in
    record { unbroken = cut.1; whole = inr (cut.0, none, subst (λ (l : List ℕ). has_bytes l ≡ true) cut.0 (has_some text some)) }
