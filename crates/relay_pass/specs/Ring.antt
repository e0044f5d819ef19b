-- What the ring's one seat learns of the log as it grows.
use Rattle.std.specs.Prelude.{◌≡◌, ◌<◌, ◌⊎◌, List, length}
use mathlib.Core.List.{IsPrefix}
use Rattle.cursor.specs.declared.packets.Packet.{Packet}
use Rattle.packet_ring.specs.Players.{Learns}
use Rattle.packet_ring.specs.Views.{Subscribing}

-- The log goes on from the old to the new one, and the seat learns of it and does nothing else. If what it knew was
-- published, what it knows now was, too; and it knows the whole log if it did before, or if the log grew.
pub record LearnsLog (old_log new_log : List Packet) (old new : Subscribing) : Type 0 where
  pub learns : Learns old new
  pub within : IsPrefix old.seen old_log → IsPrefix new.seen new_log
  pub whole : IsPrefix old.seen old_log → ((old.seen ≡ old_log) ⊎ (length old_log < length new_log)) → new.seen ≡ new_log
