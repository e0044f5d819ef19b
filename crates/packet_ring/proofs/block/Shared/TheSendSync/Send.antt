use denote.Param.Send.{IsSend}
use Rattle.packet_ring.specs.Rule.{view_coded, packet_coded, Holds}
use Rattle.packet_ring.specs.contracts.block.Shared.{the_row}
use Rattle.packet_ring.proofs.Sent.{owns_keyless}

pub send : IsSend the_row
send = record { owned = λ d vs. ((λ vss. (tt, (tt, tt))), owns_keyless d.id view_coded.code packet_coded (Holds d.id.limits) d.base); leaving = λ k f vs. tt }
