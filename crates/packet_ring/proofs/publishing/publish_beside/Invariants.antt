use Rattle.std.proofs.Common.{◌∷◌}
use Rattle.packet_ring.proofs.publishing.publish_beside.Given as goal

abbrev pub ghosts-begin_beside : goal.ghosts-begin_beside
ghosts-begin_beside a = record { packet = a.tag ∷ a.bytes.now }
