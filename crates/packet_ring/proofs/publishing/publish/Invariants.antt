use Rattle.std.proofs.Common.{◌∷◌}
use Rattle.packet_ring.proofs.publishing.publish.Given as goal

abbrev pub ghosts-begin : goal.ghosts-begin
ghosts-begin a = record { packet = a.tag ∷ a.bytes.now }
