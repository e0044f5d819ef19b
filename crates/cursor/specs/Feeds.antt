-- How a publish changes the log that a feed tells.
use Rattle.std.specs.Prelude.{◌≡◌, ℕ, Option, Some, None, List, [], ◌∷◌, ◌++◌, length}
use Rattle.cursor.specs.declared.packets.Packet.{Packet}

-- the told log grows by exactly this packet, whose number is the log's length before; of a log that
-- isn't told nothing is known
abbrev pub Appends : (old : Option (List Packet)) → Packet → (number : ℕ) → (new : Option (List Packet)) → Type 0
Appends None p n new = new ≡ None
Appends (Some packets) p n new = (n ≡ length packets) × (new ≡ Some (packets ++ p ∷ []))
