-- A `&` to a `Shared` holds the block's invariant and a share of its token. Assumes `Logic`.
use denote.Param.Shared.{copy_shared}
use denote.Struct.Field.{RawPtr-field}
use denote.Struct.Laws.{RawPtr-copy}
use denote.Struct.Lending.{of_Lends}
use Rattle.packet_ring.specs.Rule.{view_coded, packet_coded, Holds}
use Rattle.packet_ring.specs.contracts.block.Shared as C
use Rattle.packet_ring.proofs.block.Shared.TheLaw.Statement.{statement}
use Rattle.packet_ring.proofs.Shown.{shown_laws, lends_shown}

pub shares : statement
shares = of_Lends C.struct C.the_codes C.the_heap C.the_lent
    (λ d p. shown_laws view_coded packet_coded (Holds d.id.limits) d.base d.id)
    (copy_shared RawPtr-field RawPtr-copy, tt)
    (λ M 𝓤 𝓛 d p. lends_shown view_coded packet_coded (Holds d.id.limits) d.base d.id 𝓛 C.the_row.lives)
