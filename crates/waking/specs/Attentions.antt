-- What a writer knows of a player.
use Rattle.std.specs.Prelude.{ℕ, true, false}
use Rattle.waking.specs.declared.attention.Attention.{Attention}

-- one that comes is looked at
abbrev pub newcomer : Attention
newcomer = record { seen = 0; again = true }

-- it is to be looked at again
abbrev pub to_look_at : Attention → Attention
to_look_at attention = record attention { again = true }

-- its writer looks at it
abbrev pub held : Attention → Attention
held attention = record attention { again = false }

-- it had taken all, and before that its mount's players had been woken so often
abbrev pub emptied : (player_wakeups : ℕ) → Attention
emptied player_wakeups = record { seen = player_wakeups; again = false }
