-- What a read or a write moves.
use Rattle.std.specs.Prelude.{ℕ, ◌≤◌, ⊤}
use Rattle.relay_pull.specs.declared.wires.Moved.{Moved}
use Rattle.relay_pull.specs.declared.wires.Moved.TheVariants.{Bytes, Later, Ended, Lost}

-- no more bytes are moved than there is room for
abbrev pub IsWithin : Moved → (room : ℕ) → Type 0
IsWithin (Bytes count) room = count ≤ room
IsWithin Later room = ⊤
IsWithin Ended room = ⊤
IsWithin Lost room = ⊤
