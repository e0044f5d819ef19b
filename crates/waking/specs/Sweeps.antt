-- A writer's sweep over its players.
use Rattle.std.specs.Prelude.{ℕ, true, false, Option, Some, None, min}
use Rattle.waking.specs.declared.sweep.Next.{Next}
use Rattle.waking.specs.declared.sweep.Next.TheVariants.{Sleep, Again, Later, Over}
use Rattle.waking.specs.declared.sweep.Sweep.{Sweep}

-- no player was looked at
abbrev pub begun : (changes : ℕ) → Sweep
begun changes = record { changes = changes; again = false; later = None }

-- the sooner of a time and of another one, if there is one
abbrev pub sooner : (time : ℕ) → Option ℕ → ℕ
sooner time None = time
sooner time (Some other) = min other time

-- a player was looked at, and this is next
abbrev pub added : Next → Sweep → Sweep
added Sleep sweep = sweep
added Again sweep = record sweep { again = true }
added (Later time) sweep = record sweep { later = Some (sooner time sweep.later) }
added Over sweep = sweep
