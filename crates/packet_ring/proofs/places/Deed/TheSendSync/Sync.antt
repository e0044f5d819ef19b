use denote.RattleType.{RattleType}
use denote.Param.Send.{IsSend, IsSync, Frees, part_keyless}
use Rattle.core.specs.declared.alloc.Allocator.{Ghosts}
use Rattle.packet_ring.specs.contracts.places.Deed.{the_row}
use Rattle.packet_ring.proofs.Blocks.{Deed-send}

pub sync : (T A : RattleType) (g : Ghosts A.Denot) → IsSend A → Frees g g.dealloc_token → IsSync (the_row T A g)
sync T A g s f = record { shared = λ d b o ν q. part_keyless (the_row T A g) (Deed-send T A g f) q d b o }
