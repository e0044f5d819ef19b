use denote.Param.Send.{IsSend}
use Rattle.packet_ring.specs.Rule.{view_coded, packet_coded}
use Rattle.packet_ring.specs.contracts.block.Token.{the_row}
use Rattle.packet_ring.proofs.Sent.{mine_keyless}

pub send : IsSend the_row
send = record { owned = λ d vs. ((λ vss. (tt, ((λ uss. (tt, tt)), tt))), mine_keyless d.id view_coded.code packet_coded d.number d.me); leaving = λ k f vs. tt }
