-- Of which players a sweep may pass over.
use Rattle.std.proofs.Common.{◌≡◌, ℕ, ◌-◌, Bool, true, false, Option, None, Some, nat_lt, if◌then◌else◌, refl, rules}
use Rattle.pacing.specs.declared.patience.Patience.{Patience}
use Rattle.waking.specs.declared.attention.Attention.{Attention}
use Rattle.waking.specs.declared.ending.Ending.{Ending}
use Rattle.waking.specs.declared.ending.Ending.TheVariants.{WithMount, Closing, Failed}
use Rattle.waking.specs.declared.player_state.PlayerState.{PlayerState}
use Rattle.waking.specs.declared.sweep.Next.TheVariants.{Sleep, Later, Over}
use Rattle.waking.specs.Endings.{has_failed}
use Rattle.waking.specs.PlayerStates.{SleepsAt, next_quiet}

later_or_none : (is_soon : Bool) (time : ℕ) → (if is_soon then Some (Later time) else None) ≡ Some Sleep → ⊥
later_or_none true time is = absurd (cc)
later_or_none false time is = absurd (cc)

-- there is nothing to do whatever the time only where it isn't to be looked at, no bytes wait, its frames go on, and nobody was woken since
sleeps_only : (ending : Option Ending) (again : Bool) (patience : Option Patience) (attention : Attention) (seen : ℕ)
    → ((now : ℕ) (is_read : Bool) → (if has_failed ending then Some Over else if again then None else next_quiet patience ending attention seen now is_read) ≡ Some Sleep)
    → (again ≡ false) × (patience ≡ None) × (ending ≡ None) × (seen ≡ attention.seen)
sleeps_only None true patience attention seen h = absurd (cc (h 0 false))
sleeps_only None false (Some patience) attention seen h = absurd (cc (h 0 false))
sleeps_only None false None attention seen h = (refl, refl, refl, search (rules, h 0 false))
sleeps_only (Some WithMount) true patience attention seen h = absurd (cc (h 0 false))
sleeps_only (Some WithMount) false (Some patience) attention seen h = absurd (cc (h 0 false))
sleeps_only (Some WithMount) false None attention seen h = absurd (cc (h 0 false))
sleeps_only (Some (Closing moment)) true patience attention seen h = absurd (cc (h 0 false))
sleeps_only (Some (Closing moment)) false (Some patience) attention seen h = absurd (cc (h 0 false))
sleeps_only (Some (Closing moment)) false None attention seen h = absurd (later_or_none (nat_lt 0 moment) (moment - 0) (h 0 false))
sleeps_only (Some (Failed failure)) again patience attention seen h = absurd (cc (h 0 false))

pub sleeps_where : (player : PlayerState) (seen : ℕ) → SleepsAt player seen
    → (player.attention.again ≡ false) × (player.patience ≡ None) × (player.ending ≡ None) × (seen ≡ player.attention.seen)
sleeps_where player seen h = sleeps_only player.ending player.attention.again player.patience player.attention seen h

-- and there it is so
pub sleeps_there : (player : PlayerState) → player.attention.again ≡ false → player.patience ≡ None → player.ending ≡ None → SleepsAt player player.attention.seen
sleeps_there player again patience ending now is_read = rw (ending, again, patience) (search rules)
