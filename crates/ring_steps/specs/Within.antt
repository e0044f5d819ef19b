-- Each call acts at a step of its own: which one that is by its answer, and by what its actor saw earlier in the call.
use Rattle.std.specs.Prelude.{◌≡◌, ◌⊎◌, ℕ, ◌+◌, ◌≤◌, true, false, Some, List, [], ◌∷◌, ◌++◌, length, take, slice_get, is_some, if◌then◌else◌}
use Rattle.cursor.specs.declared.calls.Answer.{Answer}
use Rattle.cursor.specs.declared.calls.Answer.TheVariants.{Appended, Refused, Closed, Attached, Taken, Detached}
use Rattle.cursor.specs.declared.takes.Delivery.TheVariants.{Got, Lost, Empty, Ended}
use Rattle.cursor.specs.Log.{Event}
use Rattle.ring_steps.specs.declared.calls.Actor.{Actor}
use Rattle.ring_steps.specs.declared.calls.Observed.{Observed}
use Rattle.ring_steps.specs.declared.calls.Observed.TheVariants as saw
use Rattle.ring_steps.specs.declared.words.Head.{Head}
use Rattle.ring_steps.specs.declared.words.Word.{Word}
use Rattle.ring_steps.specs.Acting.{Acted, acted, answers_of, calls_of_actor, is_actor, is_load, is_packet}
use Rattle.ring_steps.specs.Atomic.{IsUnanswered}
use Rattle.ring_steps.specs.Runs.{Calls, Turn}

-- what an actor saw in these turns, in order
abbrev pub sights : Actor → List Turn → List Observed
sights actor [] = []
sights actor (t ∷ ts) = (if is_actor actor t.actor then t.saw ∷ [] else []) ++ sights actor ts

-- the call's first step, which is a load of the head
abbrev pub IsFirstLoad : (earlier : List Observed) → Observed → Type 0
IsFirstLoad earlier now = (earlier ≡ []) × (is_load now ≡ true)

-- the call's second load, after its first one and a pin that failed, which was taken back
abbrev pub IsSecondLoad : (earlier : List Observed) → Observed → Type 0
IsSecondLoad earlier now = (h : Head) × (w : Word) × (v : Word) × (earlier ≡ saw.Load h ∷ saw.Pin w ∷ saw.Unpin v ∷ []) × (is_load now ≡ true)

-- where a call acts, by its answer: what its actor sees at the acting step, and what it saw earlier in
-- the call
abbrev pub ActsAt : Answer → (earlier : List Observed) → Observed → Type 0
ActsAt (Appended n) earlier now = now ≡ saw.Append (n + 1)
ActsAt Refused earlier now = (earlier ≡ []) × ((w : Word) × (now ≡ saw.Begin w))
ActsAt Closed earlier now = (earlier ≡ []) × (now ≡ saw.Close)
ActsAt (Attached c) earlier now = IsFirstLoad earlier now
ActsAt (Detached left) earlier now = IsFirstLoad earlier now
ActsAt (Taken (Got n p)) earlier now = IsFirstLoad earlier now
ActsAt (Taken Empty) earlier now = IsFirstLoad earlier now
ActsAt (Taken Ended) earlier now = IsFirstLoad earlier now
ActsAt (Taken (Lost k)) earlier now = IsFirstLoad earlier now ⊎ IsSecondLoad earlier now

-- in these turns the actor did nothing yet since it was last answered, or since the start
abbrev pub EndsAnswered : Actor → List Turn → Type 0
EndsAnswered actor turns =
    (turns ≡ []) ⊎ ((front : List Turn) × (t : Turn) × (turns ≡ front ++ t ∷ []) × (is_actor actor t.actor ≡ true) × (is_some t.answer ≡ true))

-- an answered call of a run, with the turns before it, those during it, in which its actor isn't answered,
-- and the one that answers it. The answers before it tell which of the actor's calls it is
pub record IsCall (calls : Calls) (turns : List Turn) (actor : Actor) (event : Event) : Type 0 where
  pub before : List Turn
  pub during : List Turn
  pub last : Turn
  pub after : List Turn
  pub whole : turns ≡ before ++ during ++ last ∷ after
  pub begins : EndsAnswered actor before
  pub goes_on : IsUnanswered actor during
  pub by : last.actor ≡ actor
  pub answer : last.answer ≡ Some event.answer
  pub named : last.call ≡ event.call
  pub call : slice_get (calls_of_actor calls actor) (length (answers_of actor before)) ≡ Some event.call

-- an acting step lies within its call, from the first of the call's turns on and not after the last, is
-- the actor's own in that call, and is the one that the table has for the answer. But for a packet a call
-- acts where it is answered: so a loss after a failed pin acts at its second load
pub record ActsIn (calls : Calls) (turns : List Turn) (a : Acted) : Type 0 where
  pub within : IsCall calls turns a.actor a.event
  pub turn : Turn
  pub there : slice_get turns a.step ≡ Some turn
  pub own : turn.actor ≡ a.actor
  pub named : turn.call ≡ a.event.call
  pub early : List Turn
  pub begun : take a.step turns ≡ within.before ++ early
  pub ends : a.step ≤ length within.before + length within.during
  pub settled : is_packet a.event.answer ≡ false → a.step ≡ length within.before + length within.during
  pub acts : ActsAt a.event.answer (sights a.actor early) turn.saw

-- so it is for each call that acts
abbrev pub ActsWithin : Calls → List Turn → Type 0
ActsWithin calls turns = (n : ℕ) (a : Acted) → slice_get (acted 0 turns) n ≡ Some a → ActsIn calls turns a
