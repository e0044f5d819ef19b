use denote.Param.Send.{IsSync, sendable}
use denote.Struct.Struct.{Struct}
use denote.Struct.Owning.{shape}
use Rattle.packet_ring.specs.Rule.{packet_coded}
use Rattle.packet_ring.specs.contracts.reached.Reached.{the_row, the_type}
use Rattle.packet_ring.proofs.Telling.{reached_keyless}

pub sync : IsSync the_row
sync = let fields : IsSync (Struct (shape the_type)) = search sendable depth 20 in
    record { shared = λ d b o ν. (fields.shared (tt, tt) b o ν, reached_keyless packet_coded d.id d.log) }
