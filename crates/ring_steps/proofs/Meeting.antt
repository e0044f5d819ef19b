-- Each turn of a run that refuses a publish saw the pins of the seats in the slot where the next packet goes.
use Rattle.std.proofs.Common.{◌≡◌, ℕ, zero, suc, ◌≤◌, Some, List, [], ◌∷◌, ◌++◌, take, refl, ap, subst, slice_get}
use Rattle.ring_steps.specs.Runs.{At, Calls, Move, Ran, Turn, start}
use Rattle.ring_steps.specs.Traces.{MeetsPins}
use Rattle.ring_steps.proofs.Choices.{runs_alike}
use Rattle.ring_steps.proofs.Potential.{ran_split}
use Rattle.ring_steps.proofs.Refusing.{refused_met}

-- the turns up to one of them, that turn, and the rest
around : (turns : List Turn) (n : ℕ) (t : Turn) → slice_get turns n ≡ Some t → (after : List Turn) × (turns ≡ take n turns ++ t ∷ after)
around [] n t at = absurd (cc)
around (u ∷ us) zero t at = let same : u ≡ t = cc in (us, ap (λ (v : Turn). v ∷ us) same)
around (u ∷ us) (suc n) t at = let rest = around us n t at in (rest.0, ap (λ (vs : List Turn). u ∷ vs) rest.1)

pub move_meets : (script : Calls) (keep seats : ℕ) (turns : List Turn) (mid new : At) (t : Turn) → 1 ≤ keep → Ran script (start keep seats) turns mid → Move script mid t new → MeetsPins mid.ring t
move_meets script keep seats turns mid new t low ran move refused = refused_met script keep seats turns mid new t low ran move refused

-- each turn of a run
pub turn_meets : (script : Calls) (keep seats : ℕ) (turns : List Turn) (end : At) (n : ℕ) (mid : At) (t : Turn) → 1 ≤ keep → Ran script (start keep seats) turns end
    → Ran script (start keep seats) (take n turns) mid → slice_get turns n ≡ Some t → MeetsPins mid.ring t
turn_meets script keep seats turns end n mid t low whole ran at =
    let parts = around turns n t at in
    let split = ran_split script (start keep seats) (take n turns) (t ∷ parts.0) end (subst (λ (ts : List Turn). Ran script (start keep seats) ts end) parts.1 whole) in
    let same = (runs_alike script (start keep seats) (take n turns) (take n turns) split.0 mid split.1 ran refl).ends_same in
    subst (λ (a : At). MeetsPins a.ring t) same (move_meets script keep seats (take n turns) split.0 split.2.0 t low split.1 split.2.1)
