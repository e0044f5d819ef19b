use Rattle.std.proofs.Common.{◌≡◌, ℕ, ◌<◌, take}
use Rattle.ring_steps.specs.Scripts.{IsOutOfTurn, is_attached_after}
use Rattle.ring_steps.proofs.checking.call_out_of_turn.Given as goal

abbrev pub invariant-loop-i : goal.invariant-loop-i
invariant-loop-i l = (l.attached ≡ is_attached_after (take l.i l.calls)) × ((n : ℕ) → n < l.i → ¬ IsOutOfTurn l.calls n)
