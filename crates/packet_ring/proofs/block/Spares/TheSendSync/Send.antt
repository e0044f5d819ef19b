use denote.Param.Send.{IsSend}
use Rattle.packet_ring.specs.Rule.{view_coded, packet_coded}
use Rattle.packet_ring.specs.contracts.block.Spares.{the_row}
use Rattle.packet_ring.proofs.Sent.{waiting_keyless}

pub send : IsSend the_row
send = record { owned = λ d vs. ((λ vss. (tt, ((λ uss. (tt, tt)), tt))), waiting_keyless d.id view_coded.code packet_coded d.next d.views); leaving = λ k f vs. tt }
