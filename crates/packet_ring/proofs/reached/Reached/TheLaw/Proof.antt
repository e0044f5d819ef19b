-- A `&` to what was told holds it too. Assumes `Logic`.
use base.Before.{before}
use base.Logic.{snd∗}
use types.Logic.{sem}
use denote.Param.Shared.{copy_shared}
use denote.Struct.Laws.{field_copy}
use denote.Struct.Lending.{of_Lends}
use denote.Builtin.{u64}
use Rattle.core.specs.contracts.marker.PhantomData as marker
use Rattle.packet_ring.specs.Lent.{reached}
use Rattle.packet_ring.specs.Rule.{view_coded, packet_coded}
use Rattle.packet_ring.specs.contracts.reached.Reached as C
use Rattle.packet_ring.proofs.Telling.{reached_twice, lends_twice}
use Rattle.packet_ring.proofs.reached.Reached.TheLaw.Statement.{statement}

pub shares : statement
shares = of_Lends C.struct (C.the_codes (marker.the_row u64).coded) C.the_heap C.the_lent
    (λ d p. record { contraction = λ M 𝓤 𝓛 κ. reached_twice 𝓛 view_coded packet_coded d.id d.log; mono = λ M 𝓤 𝓛 κ' κ. snd∗ 𝓤 (sem 𝓛 (before κ' κ)) (sem 𝓛 (reached packet_coded d.id d.log)) })
    (copy_shared (marker.the_field u64) (field_copy (marker.the_type u64) tt), tt)
    (λ M 𝓤 𝓛 d p. lends_twice 𝓛 (reached packet_coded d.id d.log) (reached_twice 𝓛 view_coded packet_coded d.id d.log) C.the_row.lives)
