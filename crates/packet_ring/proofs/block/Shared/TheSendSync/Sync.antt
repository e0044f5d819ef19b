use denote.Param.Send.{IsSync, sendable}
use denote.Struct.Struct.{Struct}
use denote.Struct.Owning.{shape}
use Rattle.packet_ring.specs.Rule.{view_coded, packet_coded, Holds}
use Rattle.packet_ring.specs.contracts.block.Shared.{the_row, the_type}
use Rattle.packet_ring.proofs.Sent.{block_keyless}

pub sync : IsSync the_row
sync = let fields : IsSync (Struct (shape the_type)) = search sendable depth 20 in
    record { shared = λ d b o ν. (fields.shared (d.base, tt) b o ν, block_keyless d.id view_coded.code packet_coded (Holds d.id.limits) d.base ν) }
