-- When a client sends nothing.
use Rattle.std.specs.Prelude.{◌≡◌, ℕ, ◌≤◌, ◌⊎◌, None, IsSome}
use Rattle.rtsp_client.specs.Clients.{State, due, number_at, with_end}
use Rattle.rtsp_client.specs.declared.asked.Side.{Side}
use Rattle.rtsp_client.specs.declared.asked.Side.TheVariants.{Source, Target}
use Rattle.rtsp_client.specs.declared.end.End.TheVariants.{NumbersUsedUp}

-- nothing is to be sent
abbrev pub HasNothing : (old : State) → (now : ℕ) → (new : State) → Type 0
HasNothing old now new = (due Source old now ≡ None) × (due Target old now ≡ None) × (new ≡ old)

-- something is to be sent, but all numbers were used
abbrev pub IsUsedUp : (old : State) → (now : ℕ) → (new : State) → Side → Type 0
IsUsedUp old now new side =
    (old.end ≡ None) × IsSome (due side old now) × (4_294_967_295 ≤ number_at side old) × (new ≡ with_end (NumbersUsedUp side) old)

abbrev pub IsIdle : (old : State) → (now : ℕ) → (new : State) → Type 0
IsIdle old now new = HasNothing old now new ⊎ IsUsedUp old now new Source ⊎ IsUsedUp old now new Target
