use Rattle.std.proofs.Common.{◌≡◌, ◌<◌, ℕ, get_or, true}
use Rattle.base_syntax.specs.Blanks.{is_blank}
use Rattle.base_syntax.proofs.blanks.leading_blanks.Given as goal

-- each byte so far is a blank
abbrev pub invariant-loop-i : goal.invariant-loop-i
invariant-loop-i l = (k : ℕ) → k < l.i → is_blank (get_or l.text k 0) ≡ true
