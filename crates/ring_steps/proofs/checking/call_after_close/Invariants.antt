use Rattle.std.proofs.Common.{◌≡◌, ℕ, ◌<◌, take}
use Rattle.ring_steps.specs.Scripts.{IsAfterClose, is_closed_after}
use Rattle.ring_steps.proofs.checking.call_after_close.Given as goal

abbrev pub invariant-loop-i : goal.invariant-loop-i
invariant-loop-i l = (l.closed ≡ is_closed_after (take l.i l.calls)) × ((n : ℕ) → n < l.i → ¬ IsAfterClose l.calls n)
