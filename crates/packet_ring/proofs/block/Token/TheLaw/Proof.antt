-- A `&` to a token shows what it may read. Assumes `Logic`.
use denote.Builtin.{u64}
use denote.Param.Shared.{copy_shared}
use denote.Struct.Laws.{field_copy}
use denote.Struct.Lending.{of_Lends}
use Rattle.core.specs.contracts.marker.PhantomData as marker
use Rattle.packet_ring.specs.Rule.{view_coded, packet_coded}
use Rattle.packet_ring.specs.contracts.block.Token as C
use Rattle.packet_ring.proofs.block.Token.TheLaw.Statement.{statement}
use Rattle.packet_ring.proofs.Seen.{shows_laws, lends_mine}

pub shares : statement
shares = of_Lends C.struct (C.the_codes (marker.the_row u64).coded) C.the_heap C.the_lent
    (λ d p. shows_laws d.id d.me.right)
    (copy_shared (marker.the_field u64) (field_copy (marker.the_type u64) tt), tt)
    (λ M 𝓤 𝓛 d p. lends_mine 𝓛 view_coded packet_coded d.id d.number d.me C.the_row.lives)
