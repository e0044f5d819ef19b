-- What was appended to a text.
use Rattle.std.proofs.Common.{◌≡◌, ℕ, List, ◌++◌, length, drop, ap, sym, ◌∙◌}
use Rattle.std.proofs.lemmas.List.{drop_at}

pub appended : (out before text : List ℕ) (len : ℕ) → out ≡ before ++ text → len ≡ length before → drop len out ≡ text
appended out before text len e l = ap (drop len) e ∙ drop_at before text len (sym l)
