-- Which steps are atomic, how many of these an actor makes in some turns, and how many a call makes at most.
use Rattle.std.specs.Prelude.{◌≡◌, ℕ, ◌+◌, ◌&&◌, Bool, true, false, None, List, [], ◌∷◌, if◌then◌else◌}
use Rattle.cursor.specs.declared.calls.Call.{Call}
use Rattle.cursor.specs.declared.calls.Call.TheVariants.{Publish, Close, Attach, Take, Detach}
use Rattle.ring_steps.specs.declared.calls.Actor.{Actor}
use Rattle.ring_steps.specs.declared.calls.Observed.{Observed}
use Rattle.ring_steps.specs.declared.calls.Observed.TheVariants as saw
use Rattle.ring_steps.specs.Acting.{is_actor}
use Rattle.ring_steps.specs.Runs.{Turn}

-- a read or a write of a length cell or of one byte isn't atomic, and every other step is
abbrev pub is_atomic : Observed → Bool
is_atomic (saw.Length n) = false
is_atomic (saw.Byte b) = false
is_atomic other = true

-- the most atomic steps that a call makes
abbrev pub most_atomic : Call → ℕ
most_atomic (Publish p) = 3
most_atomic Close = 1
most_atomic (Attach s n) = 1
most_atomic (Take s) = 4
most_atomic (Detach s) = 1

-- how many atomic steps an actor makes in these turns
abbrev pub atomic_steps : Actor → List Turn → ℕ
atomic_steps actor [] = 0
atomic_steps actor (t ∷ ts) = (if is_actor actor t.actor && is_atomic t.saw then 1 else 0) + atomic_steps actor ts

-- the actor is answered nothing in these turns, so that all its turns are within one call
abbrev pub IsUnanswered : Actor → List Turn → Type 0
IsUnanswered actor [] = Unit {0}
IsUnanswered actor (t ∷ ts) = (is_actor actor t.actor ≡ true → t.answer ≡ None) × IsUnanswered actor ts
